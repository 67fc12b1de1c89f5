-- The picture of a replay, by the octets of a script and of a capture; and what a run of the program on both leaves.
use Rattle.std.specs.Prelude.{◌≡◌, ⊤, ℕ, List, [], Option, Some, None, Result, Ok, Err, IfSome, length, if◌then◌else◌}
use Rattle.std.specs.Io.KnownBytes.{Appends, Keeps}
use Rattle.abstract_port.specs.AbstractPort.{new_port}
use Rattle.abstract_port.specs.declared.Command.{Command}
use Rattle.capture.specs.Records.{Entry}
use Rattle.capture.specs.declared.fault.CapFault.{CapFault}
use Rattle.capture.specs.declared.reader.End.{End}
use Rattle.job.specs.Outcome.{Outcome, RunsOut}
use Rattle.job.specs.RunEnd.{IsLetOut, IsRunEnding}
use Rattle.job.specs.declared.fault.Fault.{Fault}
use Rattle.job.specs.declared.fault.Fault.TheVariants as Faults
use Rattle.job.specs.declared.report.Ended.{Ended}
use Rattle.picture.specs.Drawn.{Drawing}
use Rattle.port_text.specs.Reader.{IsReader}
use Rattle.port_text.specs.declared.tc_reader.fault.TcFault.{TcFault}
use Rattle.replay.specs.Lines.{reading_of}
use Rattle.replay.specs.Merge.{came_from, merged, timed_from}
use Rattle.replay.specs.Outcome.{ReadsAs, end_fault, is_too_late}
use Rattle.replay.specs.RunEnd.{run_end}
use Rattle.replay.specs.Texts.{replay_telling}
use Rattle.replay.specs.declared.faults.ReplayInput.{ReplayInput}
use Rattle.replay.specs.declared.faults.ReplayInput.TheVariants as Inputs
use Rattle.script.specs.Requests.{Request}
use Rattle.script.specs.Setup.{Setup}
use Rattle.script.specs.declared.faults.BadLine.{BadLine}
use Rattle.text.specs.Script.{script_of}
use Rattle.text.specs.Writes.{FallsShort}
use Rattle.drawing.specs.Followed.{BandsOfRequests, first_bands}
use Rattle.drawing.specs.PictureEnd.{ForSomeBands, first_course, picture_by}
use Rattle.drawing.specs.declared.options.DrawOptions.{DrawOptions}

-- 1. What is drawn

-- All that a script and the records of a capture ask, by moment; then the run goes on to the moment of the settings, or, where they have none, until no frame
-- can start any more. The picture of that on a new port, with these bands.
abbrev pub picture_of_both : Setup → DrawOptions → List Request → List Entry → Drawing → List ℕ
picture_of_both s o script entries bands =
    picture_by (Some (run_end s.until)) s o (merged (timed_from 0 script) (came_from 0 0 entries)) (new_port s.rate s.mtu s.room) (first_course s o) bands

-- nothing but a fault
abbrev pub refused : ReplayInput → Outcome ReplayInput
refused fault = record { text = []; fault = Some fault }

-- by what was read of the capture, whose header, or a record of which, may have a fault
abbrev pub picture_read : Setup → DrawOptions → List Request → Result (List Entry × End) CapFault → Drawing → Outcome ReplayInput
picture_read s o script (Ok records) bands = record { text = picture_of_both s o script records.0 bands; fault = end_fault (length records.0) records.1 }
picture_read s o script (Err fault) bands = refused (Inputs.Capture 0 fault)

-- by what was read of both: a fault of the script comes first
abbrev pub picture_said : Setup → DrawOptions → List Request → Option BadLine → Result (List Entry × End) CapFault → Drawing → Outcome ReplayInput
picture_said s o script None capture bands = picture_read s o script capture bands
picture_said s o script (Some fault) capture bands = refused (Inputs.Script fault)

-- by the octets of a script, and what a capture says
abbrev pub picture_of_capture : (List (List ℕ) → Result Command TcFault) → Setup → DrawOptions → List ℕ → Result (List Entry × End) CapFault → Drawing → Outcome ReplayInput
picture_of_capture read s o script capture bands =
    if is_too_late s.until then refused Inputs.Until
    else let reading = reading_of read (script_of script) in picture_said s o reading.requests reading.fault capture bands

-- 2. With which bands

-- those of both
abbrev pub BandsOfBoth : Setup → DrawOptions → List Request → List Entry → Drawing → Type 0
BandsOfBoth s o script entries bands =
    BandsOfRequests (Some (run_end s.until)) s o (merged (timed_from 0 script) (came_from 0 0 entries)) (new_port s.rate s.mtu s.room) (first_course s o) (first_bands o) bands

-- any, where the header of the capture has a fault: nothing is drawn then
abbrev pub BandsRead : Setup → DrawOptions → List Request → Result (List Entry × End) CapFault → Drawing → Type 0
BandsRead s o script (Ok records) bands = BandsOfBoth s o script records.0 bands
BandsRead s o script (Err fault) bands = ⊤

abbrev pub BandsOfCapture : (List (List ℕ) → Result Command TcFault) → Setup → DrawOptions → List ℕ → Result (List Entry × End) CapFault → Drawing → Type 0
BandsOfCapture read s o script capture bands = BandsRead s o (reading_of read (script_of script)).requests capture bands

-- Where all of a picture went out, this holds: at Ok, and at the fault of a record.
abbrev pub WhereWhole : {T : Type 0} → Result T (Fault ReplayInput) → Type 0 → Type 0
WhereWhole (Ok x) B = B
WhereWhole (Err (Faults.Input (Inputs.Capture number fault))) B = B
WhereWhole (Err (Faults.Input (Inputs.Script bad))) B = ⊤
WhereWhole (Err (Faults.Input Inputs.Until)) B = ⊤
WhereWhole (Err Faults.Read) B = ⊤
WhereWhole (Err Faults.Write) B = ⊤
WhereWhole (Err Faults.Memory) B = ⊤

-- 3. What is left of it

-- up to which moment a run was to go on that came from one moment to another: where none is given it only went on to see which frames start
abbrev pub asked_to : Option ℕ → ℕ → ℕ → ℕ
asked_to None from upto = from
asked_to (Some until) from upto = upto

-- At Ok and at a fault of the inputs all that is to be written was, and where a write failed a part of it; at a failed read, and when out of memory, nothing
-- was.
abbrev pub IsDrawnWhole : {T : Type 0} → Result T (Fault ReplayInput) → Option (List ℕ) → Option (List ℕ) → Outcome ReplayInput → Type 0
IsDrawnWhole (Ok x) old new whole = (whole.fault ≡ None) × Appends old new whole.text
IsDrawnWhole (Err (Faults.Input fault)) old new whole = (whole.fault ≡ Some fault) × Appends old new whole.text
IsDrawnWhole (Err Faults.Read) old new whole = Keeps old new
IsDrawnWhole (Err Faults.Write) old new whole = FallsShort old new whole.text
IsDrawnWhole (Err Faults.Memory) old new whole = Keeps old new

-- A replay was drawn, by what was read of both inputs.
abbrev pub IsDrawnBeside : {T : Type 0} → (List (List ℕ) → Result Command TcFault) → Setup → DrawOptions → List ℕ → Result (List Entry × End) CapFault → Result T (Fault ReplayInput) → Option (List ℕ) → Option (List ℕ) → Type 0
IsDrawnBeside read s o script capture run old new =
    ForSomeBands (λ bands. WhereWhole run (BandsOfCapture read s o script capture bands) × IsDrawnWhole run old new (picture_of_capture read s o script capture bands))

-- The end of a run on a script and a capture: what the writer got, with what no write let out, is the picture, or after a fault of the call's a prefix of it.
abbrev pub IsCapturePicture : Setup → DrawOptions → (script capture : Option (List ℕ)) → Ended → (old got errors_old errors_new : Option (List ℕ)) → Type 0
IsCapturePicture s o script capture ended old got errors_old errors_new =
    IsRunEnding replay_telling (λ run. IsLetOut run got (λ out. (read : List (List ℕ) → Result Command TcFault) → IsReader read → IfSome script (λ lines. IfSome capture (λ octets.
    (records : Result (List Entry × End) CapFault) → ReadsAs octets records
    → ForSomeBands (λ bands. WhereWhole run (BandsOfCapture read s o lines records bands) × RunsOut run old out (picture_of_capture read s o lines records bands)))))) ended errors_old errors_new
