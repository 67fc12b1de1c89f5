-- The table that is written for a script, and the fault that ends it.
use Rattle.std.specs.Prelude.{◌≡◌, ◌++◌, List, ℕ, [], Option, Some, None, Result, Ok, Err, OnOk}
use Rattle.abstract_port.specs.AbstractPort.{AbstractPort, new_port, settled}
use Rattle.abstract_port.specs.Answers.{answers_to}
use Rattle.abstract_port.specs.Sound.{IsSoundPort}
use Rattle.abstract_port.specs.declared.Command.{Command}
use Rattle.abstract_port.specs.declared.Event.{Event}
use Rattle.text.specs.Script.{Script, script_of}
use Rattle.port_text.specs.declared.tc_reader.fault.TcFault.{TcFault}
use Rattle.job.specs.Halts.{fault_of_halt}
use Rattle.job.specs.Outcome.{Outcome}
use Rattle.job.specs.declared.fault.Fault.{Fault}
use Rattle.job.specs.declared.halt.Halt.{Halt}
use Rattle.script.specs.ScriptEnd.{Whole}
use Rattle.script.specs.Outcome.{Reading, asked_in, reading_of}
use Rattle.script.specs.Requests.{Request}
use Rattle.script.specs.Responses.{events_of}
use Rattle.script.specs.Setup.{Setup}
use Rattle.script.specs.declared.faults.BadLine.{BadLine}
use Rattle.frame_table.specs.RowText.{head_line, rows_text}
use Rattle.frame_table.specs.Rows.{rows_at, rows_of, table_of}
use Rattle.frame_table.specs.Waits.{none_wait}
use Rattle.frame_table.specs.declared.rows.Arrival.{Arrival}
use Rattle.frame_table.specs.declared.rows.FrameRow.{FrameRow}
use Rattle.traffic.specs.declared.table.Stream.{Stream}

-- 1. What is written

-- the table of events, or, where a line has a fault, the rows of the events before it alone
abbrev pub table_unless : Option BadLine → List Event → AbstractPort → List (List Arrival) → List FrameRow
table_unless None events p w = table_of events p w
table_unless (Some fault) events p w = (rows_of events p w).0

-- the table of requests, and the fault
abbrev pub table_by : Option (List Stream) → List Request → Option BadLine → AbstractPort → List (List Arrival) → Outcome BadLine
table_by streams requests fault p w = record { text = rows_text streams (table_unless fault (events_of requests) p w); fault = fault }

-- of what lines say, with the clock event after them
abbrev pub table_after : Option (List Stream) → Option ℕ → Reading → AbstractPort → List (List Arrival) → Outcome BadLine
table_after streams until reading p w = table_by streams (asked_in until reading) reading.fault p w

-- of the lines to come, from a port and what waits on it
abbrev pub table_from : Option (List Stream) → (List (List ℕ) → Result Command TcFault) → Option ℕ → Script → AbstractPort → List (List Arrival) → Outcome BadLine
table_from streams read until script p w = table_after streams until (reading_of read script) p w

-- what is written after the lines of a script without a fault
abbrev pub ending_text : Option (List Stream) → Option ℕ → AbstractPort → List (List Arrival) → List ℕ
ending_text streams until p w = (table_after streams until (record { requests = []; fault = None }) p w).text

-- the head of a table, and then the table
abbrev pub with_head : Option (List Stream) → Outcome BadLine → Outcome BadLine
with_head streams table = record { text = head_line streams ++ table.text; fault = table.fault }

-- the octets of an input, on a new port, with a column of the streams where they are given
abbrev pub frames_by : Option (List Stream) → (List (List ℕ) → Result Command TcFault) → Setup → List ℕ → Outcome BadLine
frames_by streams read s input = with_head streams (table_from streams read s.until (script_of input) (new_port s.rate s.mtu s.room) none_wait)

-- without such a column
abbrev pub frames_of : (List (List ℕ) → Result Command TcFault) → Setup → List ℕ → Outcome BadLine
frames_of read s input = frames_by None read s input

-- what is to be written for a script
abbrev pub whole_frames : Setup → Whole
whole_frames setup read octets = frames_of read setup octets

-- 2. One event

-- the result of a call that can't go on, as that of a run
abbrev pub run_of_halt : {I T : Type 0} → Result T Halt → Result T (Fault I)
run_of_halt (Ok x) = Ok x
run_of_halt (Err halt) = Err (fault_of_halt halt)

-- what is written of an event
abbrev pub rows_told : Option (List Stream) → Event → AbstractPort → List (List Arrival) → Outcome BadLine
rows_told streams event p w = record { text = rows_text streams (rows_at event p w).0; fault = None }

-- A call that takes an event and does not fail leaves the port, and what waits on it, as they are after the event.
pub record IsAfter {T E : Type 0} (event : Event) (result : Result T E) (p : AbstractPort) (w : List (List Arrival)) (q : AbstractPort) (v : List (List Arrival)) : Type 0 where
  pub port : OnOk result (q ≡ settled (answers_to event p).1)
  pub waiting : OnOk result (v ≡ (rows_at event p w).1)
  pub sound : OnOk result (IsSoundPort q)
