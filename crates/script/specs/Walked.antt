-- What a walk over a script leaves: its taker has taken, in order, what the lines ask.
use Rattle.std.specs.Prelude.{◌≡◌, ◌++◌, ℕ, List, [], Bool, Option, Some, None, Result, Ok, Err}
use Rattle.abstract_port.specs.AbstractPort.{PortState, settled}
use Rattle.abstract_port.specs.Answers.{answers_to}
use Rattle.abstract_port.specs.Sound.{IsSoundPort}
use Rattle.abstract_port.specs.declared.Event.{Event}
use Rattle.job.specs.declared.fault.Fault.{Fault}
use Rattle.job.specs.declared.fault.Fault.TheVariants as Faults
use Rattle.job.specs.declared.halt.Halt.{Halt}
use Rattle.job.specs.declared.halt.Halt.TheVariants as Halts
use Rattle.text.specs.LineReader.{Advances}
use Rattle.text.specs.Script.{Script}
use Rattle.text.specs.declared.line_reader.lines.Limit.{Limit}
use Rattle.text.specs.declared.line_reader.lines.LineFault.TheVariants as LineFaults
use Rattle.script.specs.Answered.{HasFewVisits}
use Rattle.script.specs.Outcome.{Reading, long_line}
use Rattle.script.specs.Requests.{Request}
use Rattle.script.specs.declared.faults.BadLine.{BadLine}

-- 1. A port alone

-- The port answers nothing to the event, and is the one after it.
pub record IsSilent (event : Event) (p q : PortState) : Type 0 where
  pub answers : (answers_to event p.port).0 ≡ []
  pub port : q.port ≡ settled (answers_to event p.port).1
  pub sound : IsSoundPort q.port
  pub few : HasFewVisits p.port p q

-- 2. A taker

-- how a taker, its output and who watches come to be as they are, by what was asked
abbrev pub Taking : Type 0 → Type 0 → Type 0 → Type 1
Taking S W H = List Request → S → W → H → S → W → H → Type 0

-- and where a call couldn't go on in it
abbrev pub Halting : Type 0 → Type 0 → Type 0 → Type 1
Halting S W H = List Request → Halt → S → W → H → S → W → H → Type 0

module _ {S W H : Type 0} (took : Taking S W H) (cut : Halting S W H) where
  -- a call takes these requests: in whole, or a front of them where it couldn't go on
  abbrev pub Takes : {T : Type 0} → List Request → Result T Halt → S → W → H → S → W → H → Type 0
  Takes requests (Ok done) s w h t v k = took requests s w h t v k
  Takes requests (Err halt) s w h t v k = cut requests halt s w h t v k

  -- the first of these requests were taken
  pub record TakesFirst (requests : List Request) (s : S) (w : W) (h : H) (t : S) (v : W) (k : H) : Type 0 where
    pub first : List Request
    pub rest : List Request
    pub parts : requests ≡ first ++ rest
    pub taken : took first s w h t v k

  -- in the first of them a call couldn't go on
  pub record HaltsIn (requests : List Request) (halt : Halt) (s : S) (w : W) (h : H) (t : S) (v : W) (k : H) : Type 0 where
    pub first : List Request
    pub rest : List Request
    pub parts : requests ≡ first ++ rest
    pub halted : cut first halt s w h t v k

  -- A step to the next line, before which the taker may be told that more input is waited for: a step of the lines, or that call failed.
  abbrev pub StepsTaken : Option Script → Result Bool (Fault BadLine) → ℕ → List ℕ → Option Script → S → W → H → S → W → H → Type 0
  StepsTaken old (Ok more) number line new s w h t v k = Advances old (Ok more) number line new × took [] s w h t v k
  StepsTaken old (Err (Faults.Input fault)) number line new s w h t v k =
      ((n : ℕ) × (limit : Limit) × (fault ≡ long_line n limit) × Advances old (Err (LineFaults.Limit n limit)) number line new) × took [] s w h t v k
  StepsTaken old (Err Faults.Read) number line new s w h t v k = Advances old (Err LineFaults.Read) number line new × took [] s w h t v k
  StepsTaken old (Err Faults.Write) number line new s w h t v k = cut [] Halts.Write s w h t v k
  StepsTaken old (Err Faults.Memory) number line new s w h t v k = cut [] Halts.Memory s w h t v k

  -- After a walk the taker has taken, in order, the requests of a script, up to its fault; the first of them where a read failed, or a call
  -- couldn't go on.
  abbrev pub Walked : {T : Type 0} → Reading → Result T (Fault BadLine) → S → W → H → S → W → H → Type 0
  Walked reading (Ok done) s w h t v k = (reading.fault ≡ None) × took reading.requests s w h t v k
  Walked reading (Err (Faults.Input fault)) s w h t v k = (reading.fault ≡ Some fault) × took reading.requests s w h t v k
  Walked reading (Err Faults.Read) s w h t v k = TakesFirst reading.requests s w h t v k
  Walked reading (Err Faults.Write) s w h t v k = HaltsIn reading.requests Halts.Write s w h t v k
  Walked reading (Err Faults.Memory) s w h t v k = HaltsIn reading.requests Halts.Memory s w h t v k
