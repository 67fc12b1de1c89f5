-- What is written for a script and a capture, and the fault that ends it.
use Rattle.std.specs.Prelude.{◌≡◌, nat_lt, ℕ, List, [], Bool, false, Option, Some, None, Result, Ok, Err, length, IfSome, if◌then◌else◌}
use Rattle.std.specs.Io.KnownBytes.{Appends}
use Rattle.abstract_port.specs.AbstractPort.{AbstractPort, new_port}
use Rattle.abstract_port.specs.Answers.{port_after}
use Rattle.abstract_port.specs.declared.Command.{Command}
use Rattle.capture.specs.Captures.{IsCapture}
use Rattle.capture.specs.CaptureWriter.{written_header}
use Rattle.capture.specs.FileHeader.{format_of}
use Rattle.capture.specs.Records.{Entry}
use Rattle.capture.specs.declared.fault.CapFault.{CapFault}
use Rattle.capture.specs.declared.fault.CapFault.TheVariants as CapFaults
use Rattle.capture.specs.declared.format.Format.{Format}
use Rattle.capture.specs.declared.reader.End.{End}
use Rattle.capture.specs.declared.reader.End.TheVariants.{Whole, Broken}
use Rattle.capture.specs.declared.writer.TheConstants.{CAPTURE_END}
use Rattle.text.specs.Script.{script_of}
use Rattle.script.specs.Requests.{Request}
use Rattle.script.specs.Responses.{end_lines, events_of, responses_of}
use Rattle.script.specs.Setup.{Setup}
use Rattle.script.specs.declared.faults.BadLine.{BadLine}
use Rattle.summary.specs.Observed.{Observed}
use Rattle.summary.specs.Wanted.{noted_after, watched}
use Rattle.port_text.specs.declared.tc_reader.fault.TcFault.{TcFault}
use Rattle.replay.specs.Lines.{reading_of}
use Rattle.replay.specs.Merge.{came_from, merged, timed_from, to_run_end}
use Rattle.replay.specs.Outputs.{Got, Origin, Output, SentBoth, joined, nothing, output}
use Rattle.replay.specs.RunEnd.{counted_to, rest_moment}
use Rattle.replay.specs.Shifts.{moved_reading}
use Rattle.replay.specs.Stamps.{stamping_at}
use Rattle.job.specs.declared.fault.Fault.{Fault}
use Rattle.job.specs.declared.fault.Fault.TheVariants as Faults
use Rattle.replay.specs.declared.faults.ReplayInput.{ReplayInput}
use Rattle.replay.specs.declared.faults.ReplayInput.TheVariants as Inputs
use Rattle.replay.specs.declared.stamps.Stamp.{Stamp}
use Rattle.replay.specs.declared.timing.Timing.{Timing}

-- 1. What a capture says

-- octets as a capture: their records and how they end, or the fault of the file header
abbrev pub ReadsAs : List ℕ → Result (List Entry × End) CapFault → Type 0
ReadsAs octets (Ok records) = (format : Format) × IsCapture octets format records.0 records.1
ReadsAs octets (Err fault) = format_of octets ≡ Err fault

-- 2. What is written

-- both outputs, and the fault that ends them
pub record Outcome : Type 0 where
  pub output : Output
  pub fault : Option ReplayInput

-- nothing but a fault
abbrev pub refused : ReplayInput → Outcome
refused fault = record { output = nothing; fault = Some fault }

-- the file header of the output capture
abbrev pub header : Output
header = record { report = []; departures = written_header }

-- how many frames each class still has, and the summary up to a moment where one is wanted
abbrev pub end_of : ℕ → AbstractPort → Option Observed → Output
end_of moment p o = record { report = end_lines (record p { now = moment }) o; departures = [] }

-- what is reported of requests and of the run to its end, and then how many frames are left, and the summary
abbrev pub told_to_end : Origin → List Request → Option ℕ → AbstractPort → Option Observed → Output
told_to_end origin requests until p o =
    let asked = to_run_end until requests in
    let q = port_after (events_of asked) p in
    joined (output origin (responses_of asked p)) (end_of (counted_to until (rest_moment (port_after (events_of requests) p)) q.now) q (noted_after (events_of asked) p o))

-- the fault with which the records of a capture end, if they do; there are so many
abbrev pub end_fault : ℕ → End → Option ReplayInput
end_fault number Whole = None
end_fault number (Broken fault) = Some (Inputs.Capture number fault)

-- how a run ends whose capture ends with this fault after so many records, if it has one
abbrev pub ended_by : Option (ℕ × CapFault) → Result (Unit {0}) (Fault ReplayInput)
ended_by None = Ok tt
ended_by (Some broken) = Err (Faults.Input (Inputs.Capture broken.0 broken.1))

-- what is reported of all that a script asks and of the records, from a new port: the header, the answers, how many frames are left, and the
-- summary where one is wanted
abbrev pub outcome_whole : Setup → Stamp → List Request → List Entry → End → Outcome
outcome_whole s stamp script entries last =
    let origin : Origin = record { entries = entries; stamping = stamping_at stamp s.rate } in
    let requests = merged (timed_from 0 script) (came_from 0 0 entries) in
    record {
      output = joined header (told_to_end origin requests s.until (new_port s.rate s.mtu s.room) (watched s.summary s.room));
      fault = end_fault (length entries) last;
    }

-- the outcome by what was read of the capture, whose header may have a fault
abbrev pub outcome_read : Setup → Stamp → List Request → Result (List Entry × End) CapFault → Outcome
outcome_read s stamp script (Ok records) = outcome_whole s stamp script records.0 records.1
outcome_read s stamp script (Err fault) = refused (Inputs.Capture 0 fault)

-- the fault of a replay whose capture is not opened
abbrev pub open_fault : CapFault → Fault ReplayInput
open_fault CapFaults.Read = Faults.Read
open_fault CapFaults.Memory = Faults.Memory
open_fault fault = Faults.Input (Inputs.Capture 0 fault)

-- why a capture is not opened: the fault of its file header, or a read or memory failed
abbrev pub IsOpenFault : Option (List ℕ) → Fault ReplayInput → Type 0
IsOpenFault known (Faults.Input (Inputs.Capture number fault)) = (number ≡ 0) × IfSome known (λ octets. format_of octets ≡ Err fault)
IsOpenFault known Faults.Read = Unit {0}
IsOpenFault known Faults.Memory = Unit {0}
IsOpenFault known Faults.Write = ⊥
IsOpenFault known (Faults.Input Inputs.Until) = ⊥
IsOpenFault known (Faults.Input (Inputs.Script bad)) = ⊥

-- the outcome by what was read of both inputs: a fault of the script comes first
abbrev pub outcome_said : Setup → Stamp → List Request → Option BadLine → Result (List Entry × End) CapFault → Outcome
outcome_said s stamp script None capture = outcome_read s stamp script capture
outcome_said s stamp script (Some fault) capture = refused (Inputs.Script fault)

-- a moment after the last that a capture can say
abbrev pub is_too_late : Option ℕ → Bool
is_too_late None = false
is_too_late (Some moment) = nat_lt CAPTURE_END moment

-- the outcome of a script and a capture, on a new port, whose departures are stamped so
abbrev pub outcome_of : (List (List ℕ) → Result Command TcFault) → Setup → Stamp → List ℕ → Result (List Entry × End) CapFault → Outcome
outcome_of read s stamp script capture =
    if is_too_late s.until then refused Inputs.Until
    else let reading = reading_of read (script_of script) in outcome_said s stamp reading.requests reading.fault capture

-- and where the moments of the capture's records are moved: that of the records so moved
abbrev pub timed_outcome : (List (List ℕ) → Result Command TcFault) → Setup → Timing → List ℕ → Result (List Entry × End) CapFault → Outcome
timed_outcome read s timing script capture = outcome_of read s timing.stamp script (moved_reading timing.shift capture)

-- both outputs were written whole
pub record AppendsBoth (old new : Got) (whole : Output) : Type 0 where
  pub report : Appends old.report new.report whole.report
  pub departures : Appends old.departures new.departures whole.departures

-- At Ok, and at a fault of the inputs, both outputs are written whole, and the fault is theirs; at the other faults a prefix of each. That
-- may be all of it after a failed write, since what was written is let out before more is waited for.
abbrev pub Ends : {T : Type 0} → Result T (Fault ReplayInput) → Got → Got → Outcome → Type 0
Ends (Ok x) old new whole = (whole.fault ≡ None) × AppendsBoth old new whole.output
Ends (Err (Faults.Input fault)) old new whole = (whole.fault ≡ Some fault) × AppendsBoth old new whole.output
Ends (Err Faults.Read) old new whole = (left : Output) × SentBoth old new whole.output left
Ends (Err Faults.Write) old new whole = (left : Output) × SentBoth old new whole.output left
Ends (Err Faults.Memory) old new whole = (left : Output) × SentBoth old new whole.output left
