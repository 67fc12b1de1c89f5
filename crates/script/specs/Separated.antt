-- What is written of a class that every accepted schedule keeps apart.
use Rattle.std.specs.Prelude.{◌≡◌, ◌<◌, List, ℕ, [], ◌∷◌, Result, if◌then◌else◌}
use Rattle.std.specs.List.{flat_map}
use Rattle.abstract_port.specs.AbstractPort.{AbstractPort, new_port}
use Rattle.abstract_port.specs.Answers.{answers_to}
use Rattle.abstract_port.specs.declared.Command.{Command}
use Rattle.abstract_port.specs.declared.Event.{Event}
use Rattle.port_text.specs.AnswerLines.{answer_lines}
use Rattle.text.specs.Script.{script_of}
use Rattle.abstract_port.specs.Separation.{IsKeptApart, concerning, is_other, noted}
use Rattle.port_text.specs.declared.tc_reader.fault.TcFault.{TcFault}
use Rattle.script.specs.Outcome.{asked_in, reading_of}
use Rattle.script.specs.Requests.{Request, Asks, NoCommand}
use Rattle.script.specs.Responses.{events_of}
use Rattle.script.specs.Setup.{Setup}

-- the lines of the answers that concern a class
abbrev pub lines_concerning : ℕ → List Event → AbstractPort → List ℕ
lines_concerning class events p = flat_map (λ n. answer_lines n.answer) (concerning class (noted events p))

-- what is asked, without the arrivals of other classes, and of no class
abbrev pub only_asked : ℕ → List Request → AbstractPort → List Request
only_asked class [] p = []
only_asked class (NoCommand fault ∷ rest) p = NoCommand fault ∷ only_asked class rest p
only_asked class (Asks event ∷ rest) p =
    let later = only_asked class rest (answers_to event p).1 in
    if is_other class event p then later else Asks event ∷ later

-- Of requests on a port: where their events keep the class apart, the lines that concern it are those of the requests without the
-- other classes' arrivals.
abbrev pub IsSeparatedBy : List Request → AbstractPort → Type 0
IsSeparatedBy requests p =
    (class : ℕ) → class < 8 → IsKeptApart class (events_of requests) p
    → lines_concerning class (events_of requests) p ≡ lines_concerning class (events_of (only_asked class requests p)) p

-- the requests of an input are separated on a new port
abbrev pub IsSeparatedIn : (List (List ℕ) → Result Command TcFault) → Setup → List ℕ → Type 0
IsSeparatedIn read s input = IsSeparatedBy (asked_in s.until (reading_of read (script_of input))) (new_port s.rate s.mtu s.room)
