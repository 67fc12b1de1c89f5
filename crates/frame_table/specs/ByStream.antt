-- The table of frames with the stream of each, by a table of streams and a script; and what a run of the program on both leaves.
use Rattle.std.specs.Prelude.{ℕ, List, [], Option, Some, None, Result, Ok, Err, IfSome}
use Rattle.abstract_port.specs.declared.Command.{Command}
use Rattle.job.specs.Outcome.{Outcome, RunsOut}
use Rattle.job.specs.RunEnd.{IsLetOut, IsRunEnding}
use Rattle.job.specs.declared.fault.Fault.{Fault}
use Rattle.job.specs.declared.fault.Fault.TheVariants as Faults
use Rattle.job.specs.declared.report.Ended.{Ended}
use Rattle.text.specs.Script.{script_of}
use Rattle.script.specs.Setup.{Setup}
use Rattle.script.specs.declared.faults.BadLine.{BadLine}
use Rattle.script.specs.declared.faults.ScriptFault.{ScriptFault}
use Rattle.port_text.specs.Reader.{IsReader}
use Rattle.port_text.specs.declared.tc_reader.fault.TcFault.{TcFault}
use Rattle.traffic.specs.Faults.{streams_telling}
use Rattle.traffic.specs.Table.{Table}
use Rattle.traffic.specs.declared.faults.StreamsInput.{StreamsInput}
use Rattle.traffic.specs.declared.faults.StreamsInput.TheVariants as Inputs
use Rattle.traffic.specs.declared.table.Stream.{Stream}
use Rattle.frame_table.specs.Outcome.{frames_by}
use Rattle.frame_table.specs.StreamOf.{ids_table}

-- 1. What is written

-- the fault of a script, where there are two inputs
abbrev pub script_input : BadLine → StreamsInput
script_input bad = Inputs.Script bad.line bad.fault

abbrev pub script_inputs : Option BadLine → Option StreamsInput
script_inputs None = None
script_inputs (Some bad) = Some (script_input bad)

-- how a run on a script ended, where there are two inputs
abbrev pub script_run : Result (Unit {0}) (Fault BadLine) → Result (Unit {0}) (Fault StreamsInput)
script_run (Ok x) = Ok x
script_run (Err (Faults.Input bad)) = Err (Faults.Input (script_input bad))
script_run (Err Faults.Read) = Err Faults.Read
script_run (Err Faults.Write) = Err Faults.Write
script_run (Err Faults.Memory) = Err Faults.Memory

abbrev pub of_script : Outcome BadLine → Outcome StreamsInput
of_script whole = record { text = whole.text; fault = script_inputs whole.fault }

-- the table of the frames, or, where the table of streams has a fault, nothing
abbrev pub frames_unless : Option (ℕ × ScriptFault) → List Stream → (List (List ℕ) → Result Command TcFault) → Setup → List ℕ → Outcome StreamsInput
frames_unless None streams read s input = of_script (frames_by (Some streams) read s input)
frames_unless (Some (number, fault)) streams read s input = record { text = []; fault = Some (Inputs.Table number fault) }

-- by what the lines of a table of streams say
abbrev pub frames_in : Table → (List (List ℕ) → Result Command TcFault) → Setup → List ℕ → Outcome StreamsInput
frames_in table read s input = frames_unless table.fault table.streams read s input

-- by the octets of a table of streams and of a script
abbrev pub frames_by_stream : (List (List ℕ) → Result Command TcFault) → Setup → List ℕ → List ℕ → Outcome StreamsInput
frames_by_stream read s table input = frames_in (ids_table (script_of table)) read s input

-- 2. Calls

-- The end of a run on a table of streams and a script: what the writer got, with what no write let out, is what is to be written for the octets of both,
-- or after a fault of a call's a prefix of it.
abbrev pub IsByStreamEnding : Setup → (table input : Option (List ℕ)) → Ended → (old got errors_old errors_new : Option (List ℕ)) → Type 0
IsByStreamEnding setup table input ended old got errors_old errors_new =
    IsRunEnding streams_telling (λ run. IsLetOut run got (λ out. (read : List (List ℕ) → Result Command TcFault) → IsReader read
    → IfSome table (λ streams. IfSome input (λ script. RunsOut run old out (frames_by_stream read setup streams script))))) ended errors_old errors_new
