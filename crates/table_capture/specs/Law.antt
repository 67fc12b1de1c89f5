-- What a capture of a table's frames says, read as captures are read, and as `replay` takes a record: the law.
use Rattle.std.specs.Prelude.{◌≡◌, ◌≤◌, ◌<◌, ◌*◌, ◌/◌, ◌^◌, ℕ, List, map, length, None}
use Rattle.wire_time.specs.declared.Frame.{Frame}
use Rattle.capture.specs.CaptureWriter.{written_format}
use Rattle.capture.specs.Captures.{IsCapture}
use Rattle.capture.specs.Layout.{AreWithin}
use Rattle.capture.specs.Record.{frame_of}
use Rattle.capture.specs.Records.{Entry}
use Rattle.capture.specs.declared.format.TheConstants.{MAX_RECORDS}
use Rattle.capture.specs.declared.reader.End.TheVariants.{Whole}
use Rattle.text.specs.Script.{script_of}
use Rattle.traffic.specs.Plan.{plan_frames}
use Rattle.traffic.specs.declared.course.Coming.{Coming}
use Rattle.traffic.specs.declared.plan.Plan.{Plan}
use Rattle.table_capture.specs.Carried.{AreCarried, IsCarried}
use Rattle.table_capture.specs.Octets.{has_tag, record_of}
use Rattle.table_capture.specs.Outcome.{capture_of, outcome_of, table_of}

-- the record of a frame as it is read: a capture has whole nanoseconds, and its moment is rounded down to them
abbrev pub read_record : Coming → Entry
read_record c = record (record_of c) { moment = c.moment / 1000 * 1000 }

-- a frame as its record says it: its id is the number of the record
abbrev pub told_frame : Frame → ℕ → Frame
told_frame f number = record { id = number; priority = f.priority; len = f.len; tagged = has_tag f.tagged f.priority }

-- the frames of a table
abbrev pub frames_in : Plan → List ℕ → List Coming
frames_in plan table = plan_frames plan (table_of plan (script_of table)).streams

-- 1. What is written for a table without a fault is a capture of its frames, each once and in their order. 2. So it is of any frames that a capture can
-- have. 3. Of each of them its record is read with its priority and its length, and its moment rounded down to a nanosecond.
pub record CaptureLaw : Type 0 where
  pub whole : (plan : Plan) (table : List ℕ) → (outcome_of plan table).fault ≡ None
      → AreCarried (frames_in plan table) × IsCapture (outcome_of plan table).text written_format (map read_record (frames_in plan table)) Whole
  pub frames : (c : Coming) → IsCarried c → (number : ℕ) → frame_of (read_record c) number ≡ told_frame c.frame number
