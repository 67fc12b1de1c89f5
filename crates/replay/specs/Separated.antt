-- What is written of a class that every accepted schedule keeps apart, in both outputs of a replay.
use Rattle.std.specs.Prelude.{◌≡◌, ◌<◌, List, ℕ}
use Rattle.std.specs.List.{flat_map}
use Rattle.abstract_port.specs.AbstractPort.{AbstractPort}
use Rattle.abstract_port.specs.declared.Event.{Event}
use Rattle.port_text.specs.AnswerLines.{answer_lines}
use Rattle.abstract_port.specs.Separation.{IsKeptApart, Noted, concerning, noted}
use Rattle.script.specs.Requests.{Request}
use Rattle.script.specs.Responses.{events_of}
use Rattle.script.specs.Separated.{only_asked}
use Rattle.replay.specs.Outputs.{Origin, Output, answer_record}

-- the lines of noted answers, and the records of their starts
abbrev pub output_of : Origin → List Noted → Output
output_of origin notes = record {
  report = flat_map (λ n. answer_lines n.answer) notes;
  departures = flat_map (λ n. answer_record origin n.answer) notes;
}

-- both outputs of the answers that concern a class
abbrev pub output_concerning : Origin → ℕ → List Event → AbstractPort → Output
output_concerning origin class events p = output_of origin (concerning class (noted events p))

-- Of what a script and a capture ask of a port: where the events keep the class apart, what concerns it in both outputs is that of the same
-- without the other classes' arrivals. The clock events before those arrivals stay.
abbrev pub IsSeparatedBy : Origin → List Request → AbstractPort → Type 0
IsSeparatedBy origin requests p =
    (class : ℕ) → class < 8 → IsKeptApart class (events_of requests) p
    → output_concerning origin class (events_of requests) p ≡ output_concerning origin class (events_of (only_asked class requests p)) p
