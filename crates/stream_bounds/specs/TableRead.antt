-- What answering about a command leaves.
use Rattle.std.specs.Prelude.{◌≡◌, ◌⊎◌, ℕ, Bool, true, false, List, Option, Some, None, Result, Ok, Err}
use Rattle.std.specs.Io.KnownBytes.{Appends, Keeps}
use Rattle.text.specs.Writes.{AppendsFront, FallsShort}
use Rattle.abstract_port.specs.declared.Change.{Change}
use Rattle.abstract_port.specs.declared.Command.{Command}
use Rattle.abstract_port.specs.declared.Refused.{Refused}
use Rattle.stream_bounds.specs.BoundLines.{AreChangeAnswers, AreCommandAnswers, change_answered, change_lines, command_answered, command_lines}
use Rattle.job.specs.Outcome.{Runs}
use Rattle.text.specs.Script.{Script}
use Rattle.stream_bounds.specs.Outcome.{AreAnswers, begun_with, bounds_in}
use Rattle.stream_bounds.specs.Verdicts.{ClassAnswer}
use Rattle.stream_bounds.specs.declared.faults.Answered.{Answered}
use Rattle.stream_bounds.specs.declared.settings.BoundsSettings.{BoundsSettings}
use Rattle.port_text.specs.declared.tc_reader.fault.TcFault.{TcFault}
use Rattle.traffic.specs.declared.table.Stream.{Stream}
use Rattle.delay_bounds.specs.Bounded.{Answer}
use Rattle.delay_bounds.specs.declared.Bounded.{Bounded}
use Rattle.delay_bounds.specs.declared.Unbound.{Unbound}
use Rattle.delay_bounds.specs.declared.Unbound.TheVariants as Unbounds
use Rattle.job.specs.declared.fault.Fault.{Fault}
use Rattle.job.specs.declared.fault.Fault.TheVariants as Faults
use Rattle.stream_bounds.specs.declared.faults.BoundsInput.{BoundsInput}

-- At Ok the whole text is written, and this was answered; after a failed write, or out of memory, a prefix of the text is.
abbrev pub Tells : Result Answered (Fault BoundsInput) → Option (List ℕ) → Option (List ℕ) → List ℕ → Answered → Type 0
Tells (Ok told) old new text answered = Appends old new text × (told ≡ answered)
Tells (Err (Faults.Input fault)) old new text answered = ⊥
Tells (Err Faults.Read) old new text answered = ⊥
Tells (Err Faults.Write) old new text answered = FallsShort old new text
Tells (Err Faults.Memory) old new text answered = AppendsFront old new text

-- What is written and answered is by some answers about all classes that are right; where memory is out, nothing is written.
abbrev pub TellsBy : Result Answered (Fault BoundsInput) → (AreRight : List ClassAnswer → Type 0) → (text : List ClassAnswer → List ℕ)
    → (answered : List ClassAnswer → Answered) → (old new : Option (List ℕ)) → Type 0
TellsBy (Err Faults.Memory) AreRight text answered old new = Keeps old new
TellsBy told AreRight text answered old new = (answers : List ClassAnswer) × AreRight answers × Tells told old new (text answers) (answered answers)

-- the answer about a change, whose line has this number
abbrev pub TellsChange : Result Answered (Fault BoundsInput) → ℕ → Option Refused → BoundsSettings → Change → List Stream
    → (old new : Option (List ℕ)) → Type 0
TellsChange told number refusal s c streams old new =
    TellsBy told (AreChangeAnswers refusal s c streams) (change_lines refusal s c streams) (change_answered number refusal s c streams) old new

-- and about a line that begins with tc
abbrev pub TellsLine : Result Answered (Fault BoundsInput) → ℕ → BoundsSettings → List Stream → Result Command TcFault
    → (old new : Option (List ℕ)) → Type 0
TellsLine told number s streams asked old new =
    TellsBy told (AreCommandAnswers s streams asked) (command_lines s streams asked) (command_answered number s streams asked) old new

-- A fault of a call may leave lines that nothing is known of.
abbrev pub may_stop : {T : Type 0} → Result T (Fault BoundsInput) → Bool
may_stop (Ok x) = false
may_stop (Err (Faults.Input fault)) = false
may_stop (Err _) = true

-- what `bound_flows` answers is this, unless it runs out of memory
abbrev pub IsAnswered : {A : Type 0} → Result (Bounded A) Unbound → Result Answer Unbound → Type 0
IsAnswered (Ok b) told = told ≡ Ok (record { bounds = b.bounds.items; most = b.most; frames = b.frames; every = b.every })
IsAnswered (Err why) told = (why ≡ Unbounds.Memory) ⊎ (told ≡ Err why)

-- an end with this fault, or without one
abbrev pub IsEnd : Result (Unit {0}) (Fault BoundsInput) → Option BoundsInput → Type 0
IsEnd (Ok x) fault = fault ≡ None
IsEnd (Err why) None = ⊥
IsEnd (Err why) (Some fault) = why ≡ Faults.Input fault

-- The lines of schedules are answered: by answers that are right, the outcome is written.
pub record RunsLines (result : Result (Unit {0}) (Fault BoundsInput)) (read : List (List ℕ) → Result Command TcFault) (s : BoundsSettings)
    (streams : List Stream) (script : Script) (old new : Option (List ℕ)) : Type 0 where
  pub answers : List (List ClassAnswer)
  pub right : AreAnswers (may_stop result) read s streams answers script
  pub is : Runs result old new (bounds_in read s streams (begun_with streams) answers script)
