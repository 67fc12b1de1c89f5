-- The table of the frames of a replay, by the octets of a script and of a capture; and what a run of the program on both leaves.
use Rattle.std.specs.Prelude.{ℕ, List, [], Option, Some, None, Result, Ok, Err, IfOk, IfSome, length, if◌then◌else◌}
use Rattle.abstract_port.specs.AbstractPort.{new_port}
use Rattle.abstract_port.specs.declared.Command.{Command}
use Rattle.capture.specs.Records.{Entry}
use Rattle.capture.specs.declared.fault.CapFault.{CapFault}
use Rattle.capture.specs.declared.reader.End.{End}
use Rattle.job.specs.Outcome.{Outcome, RunsOut}
use Rattle.job.specs.RunEnd.{IsLetOut, IsRunEnding}
use Rattle.job.specs.declared.fault.Fault.{Fault}
use Rattle.job.specs.declared.fault.Fault.TheVariants as Faults
use Rattle.job.specs.declared.report.Ended.{Ended}
use Rattle.text.specs.Script.{script_of}
use Rattle.replay.specs.Lines.{reading_of}
use Rattle.replay.specs.Merge.{all_requests}
use Rattle.replay.specs.Outcome.{ReadsAs, end_fault, ended_by, is_too_late}
use Rattle.replay.specs.Faults.{fault_of_stop}
use Rattle.replay.specs.RecordsLeft.{EndsSo}
use Rattle.replay.specs.Texts.{replay_telling}
use Rattle.replay.specs.declared.faults.ReplayInput.{ReplayInput}
use Rattle.replay.specs.declared.faults.ReplayInput.TheVariants as Inputs
use Rattle.replay.specs.declared.faults.Stop.{Stop}
use Rattle.replay.specs.declared.faults.Stop.TheVariants as Stops
use Rattle.script.specs.Requests.{Request}
use Rattle.script.specs.Setup.{Setup}
use Rattle.script.specs.declared.faults.BadLine.{BadLine}
use Rattle.port_text.specs.Reader.{IsReader}
use Rattle.port_text.specs.declared.tc_reader.fault.TcFault.{TcFault}
use Rattle.frame_table.specs.Outcome.{table_by, with_head}
use Rattle.frame_table.specs.Waits.{none_wait}

-- 1. What is written

-- the head, and the table of all that a script and the records of a capture ask, by moment, to the end of the run: as of the lines of a script
abbrev pub table_of_both : Setup → List Request → List Entry → Outcome BadLine
table_of_both s script entries = with_head None (table_by None (all_requests script entries s.until) None (new_port s.rate s.mtu s.room) none_wait)

-- nothing but a fault
abbrev pub refused : ReplayInput → Outcome ReplayInput
refused fault = record { text = []; fault = Some fault }

-- by what was read of the capture, whose header, or a record of which, may have a fault
abbrev pub frames_read : Setup → List Request → Result (List Entry × End) CapFault → Outcome ReplayInput
frames_read s script (Ok records) = record { text = (table_of_both s script records.0).text; fault = end_fault (length records.0) records.1 }
frames_read s script (Err fault) = refused (Inputs.Capture 0 fault)

-- by what was read of both: a fault of the script comes first
abbrev pub frames_said : Setup → List Request → Option BadLine → Result (List Entry × End) CapFault → Outcome ReplayInput
frames_said s script None capture = frames_read s script capture
frames_said s script (Some fault) capture = refused (Inputs.Script fault)

-- by the octets of a script, and what a capture says
abbrev pub frames_of_capture : (List (List ℕ) → Result Command TcFault) → Setup → List ℕ → Result (List Entry × End) CapFault → Outcome ReplayInput
frames_of_capture read s script capture =
    if is_too_late s.until then refused Inputs.Until
    else let reading = reading_of read (script_of script) in frames_said s reading.requests reading.fault capture

-- 2. Calls

-- the fault of a table whose run stops so
abbrev pub fault_of : Stop → Fault BadLine
fault_of Stops.Read = Faults.Read
fault_of Stops.Write = Faults.Write
fault_of Stops.Memory = Faults.Memory

-- a result, as that of the run of a table
abbrev pub run_of : {T : Type 0} → Result T Stop → Result T (Fault BadLine)
run_of (Ok x) = Ok x
run_of (Err stop) = Err (fault_of stop)

-- how a run ended whose capture ends so
abbrev pub run_of_both : Result (Option (ℕ × CapFault)) Stop → Result (Unit {0}) (Fault ReplayInput)
run_of_both (Ok broken) = ended_by broken
run_of_both (Err stop) = Err (fault_of_stop stop)

-- The records of a capture have come to this end, and the whole table is written; or a prefix of it, after a fault of a call's.
pub record RunsBoth (entries : List Entry) (last : End) (r : Result (Option (ℕ × CapFault)) Stop) (old new : Option (List ℕ)) (whole : Outcome BadLine) : Type 0 where
  pub ending : IfOk r (EndsSo entries last)
  pub out : RunsOut (run_of r) old new whole

-- The end of a run on a script and a capture: what the writer got, with what no write let out, is what is to be written for the octets of both, or after a
-- fault of a call's a prefix of it.
abbrev pub IsCaptureEnding : Setup → (script capture : Option (List ℕ)) → Ended → (old got errors_old errors_new : Option (List ℕ)) → Type 0
IsCaptureEnding s script capture ended old got errors_old errors_new =
    IsRunEnding replay_telling (λ run. IsLetOut run got (λ out. (read : List (List ℕ) → Result Command TcFault) → IsReader read → IfSome script (λ lines. IfSome capture (λ octets.
    (records : Result (List Entry × End) CapFault) → ReadsAs octets records → RunsOut run old out (frames_of_capture read s lines records))))) ended errors_old errors_new
