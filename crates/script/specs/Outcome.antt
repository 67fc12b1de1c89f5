-- What is written for a script, and the fault that ends it.
use Rattle.std.specs.Prelude.{◌≡◌, List, ℕ, [], ◌∷◌, ◌++◌, Option, Some, None, Result, Ok, Err}
use Rattle.abstract_port.specs.AbstractPort.{AbstractPort, new_port}
use Rattle.abstract_port.specs.Answers.{answers_of, port_after}
use Rattle.abstract_port.specs.declared.Command.{Command}
use Rattle.abstract_port.specs.declared.Event.TheVariants.{Clock}
use Rattle.abstract_port.specs.Promises.{KeepsPromises}
use Rattle.port_text.specs.declared.tc_reader.fault.TcFault.{TcFault}
use Rattle.text.specs.Script.{Script, End, Broken, Line, script_of}
use Rattle.text.specs.declared.line_reader.lines.Limit.{Limit}
use Rattle.text.specs.declared.line_reader.lines.Limit.TheVariants as Limits
use Rattle.script.specs.Requests.{Request, Asks, request_of}
use Rattle.script.specs.Responses.{answers_in, end_lines, events_of, lines_of, responses_of}
use Rattle.summary.specs.Observed.{Observed}
use Rattle.summary.specs.Wanted.{noted_after, watched}
use Rattle.script.specs.Setup.{Setup}
use Rattle.script.specs.declared.faults.ScriptFault.{ScriptFault}
use Rattle.script.specs.declared.faults.ScriptFault.TheVariants as ScriptFaults
use Rattle.script.specs.declared.faults.BadLine.{BadLine}
use Rattle.job.specs.Outcome.{Outcome}

-- the line of this number has this fault
abbrev pub bad_line : ℕ → ScriptFault → BadLine
bad_line number fault = record { line = number; fault = fault }

-- the fault of a line that passes a limit
abbrev pub limit_fault : Limit → ScriptFault
limit_fault Limits.LongLine = ScriptFaults.LongLine
limit_fault Limits.TooManyLines = ScriptFaults.TooManyLines

-- the line of this number passes a limit
abbrev pub long_line : ℕ → Limit → BadLine
long_line number limit = bad_line number (limit_fault limit)

-- 1. What a script says

-- what the lines ask, up to the first fault, and that fault with the number of its line
pub record Reading : Type 0 where
  pub requests : List Request
  pub fault : Option BadLine

-- a line before the rest of a script
abbrev pub with_line : ℕ → Result (Option Request) ScriptFault → Reading → Reading
with_line number (Err fault) rest = record { requests = []; fault = Some (bad_line number fault) }
with_line number (Ok None) rest = rest
with_line number (Ok (Some request)) rest = record { requests = request ∷ rest.requests; fault = rest.fault }

-- what the lines of a script say
abbrev pub reading_of : (List (List ℕ) → Result Command TcFault) → Script → Reading
reading_of read End = record { requests = []; fault = None }
reading_of read (Broken number limit) = record { requests = []; fault = Some (long_line number limit) }
reading_of read (Line number octets rest) = with_line number (request_of read octets) (reading_of read rest)

-- the clock event after a script, if one is given
abbrev pub clock_after : Option ℕ → List Request
clock_after None = []
clock_after (Some moment) = Asks (Clock moment) ∷ []

-- all that is asked: what the lines ask, and where there is no fault the clock event after them
abbrev pub asked_with : Option ℕ → List Request → Option BadLine → List Request
asked_with until requests None = requests ++ clock_after until
asked_with until requests (Some fault) = requests

-- all that is asked by what lines say, with the clock event after them where there is no fault
abbrev pub asked_in : Option ℕ → Reading → List Request
asked_in until reading = asked_with until reading.requests reading.fault

-- 2. What is written

-- how many frames each class still has, and the summary where one is wanted; neither where there is a fault
abbrev pub end_unless : Option BadLine → AbstractPort → Option Observed → List ℕ
end_unless None p o = end_lines p o
end_unless (Some fault) p o = []

-- the lines of what the port answers, with the tc faults at their places, then of the frames that are left, and of the summary
abbrev pub outcome_after : Option ℕ → Reading → AbstractPort → Option Observed → Outcome BadLine
outcome_after until reading p o =
    let events = events_of (asked_in until reading) in
    record {
      text = lines_of (responses_of (asked_in until reading) p) ++ end_unless reading.fault (port_after events p) (noted_after events p o);
      fault = reading.fault;
    }

-- what is written after the lines of a script without a fault
abbrev pub ending_text : Option ℕ → AbstractPort → Option Observed → List ℕ
ending_text until p o = (outcome_after until (record { requests = []; fault = None }) p o).text

-- the outcome of the lines to come, from a port and what is seen of it
abbrev pub outcome_from : (List (List ℕ) → Result Command TcFault) → Option ℕ → Script → AbstractPort → Option Observed → Outcome BadLine
outcome_from read until script p o = outcome_after until (reading_of read script) p o

-- the octets of an input, on a new port
abbrev pub outcome_of : (List (List ℕ) → Result Command TcFault) → Setup → List ℕ → Outcome BadLine
outcome_of read s input = outcome_from read s.until (script_of input) (new_port s.rate s.mtu s.room) (watched s.summary s.room)

-- 3. What holds of every output

-- The answers among what is reported are those of the abstract port to the events of the script, and such a run keeps what every
-- run of a new port keeps: each start by an open gate, one frame on the wire at a time, counters that are the counts.
pub record IsFaithful (requests : List Request) (p : AbstractPort) : Type 0 where
  pub answers : answers_in (responses_of requests p) ≡ answers_of (events_of requests) p
  pub promises : KeepsPromises p (events_of requests)

-- The output of an input is faithful: its requests are asked of a new port with the settings.
abbrev pub IsFaithfulTo : (List (List ℕ) → Result Command TcFault) → Setup → List ℕ → Type 0
IsFaithfulTo read s input = IsFaithful (asked_in s.until (reading_of read (script_of input))) (new_port s.rate s.mtu s.room)
