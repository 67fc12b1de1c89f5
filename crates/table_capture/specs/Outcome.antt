-- What is written for a table of streams as a capture, and the fault that ends it.
use Rattle.std.specs.Prelude.{ℕ, List, [], ◌++◌, map, Option, Some, None}
use Rattle.text.specs.Script.{Script, script_of}
use Rattle.capture.specs.CaptureWriter.{written_format, written_header}
use Rattle.capture.specs.Layout.{spelled_records}
use Rattle.job.specs.Outcome.{Outcome}
use Rattle.script.specs.declared.faults.ScriptFault.{ScriptFault}
use Rattle.traffic.specs.Outcome.{crowded_table}
use Rattle.traffic.specs.Plan.{plan_frames}
use Rattle.traffic.specs.Room.{counted_in}
use Rattle.traffic.specs.Table.{Table, table_by}
use Rattle.traffic.specs.declared.course.Coming.{Coming}
use Rattle.traffic.specs.declared.faults.StreamsInput.{StreamsInput}
use Rattle.traffic.specs.declared.faults.StreamsInput.TheVariants as Inputs
use Rattle.traffic.specs.declared.frame_count.FrameCount.{FrameCount}
use Rattle.traffic.specs.declared.frame_count.FrameCount.TheVariants.{Few, Many}
use Rattle.traffic.specs.declared.plan.Plan.{Plan}
use Rattle.traffic.specs.declared.table.Stream.{Stream}
use Rattle.table_capture.specs.Carried.{carried}
use Rattle.table_capture.specs.Octets.{record_of}

-- 1. The capture of frames

-- the records of frames, one after another
abbrev pub records_of : List Coming → List ℕ
records_of frames = spelled_records written_format (map record_of frames)

-- a capture of them
abbrev pub capture_of : List Coming → List ℕ
capture_of frames = written_header ++ records_of frames

-- 2. The outcome of a table

-- the whole capture
abbrev pub whole_capture : List Coming → Outcome StreamsInput
whole_capture frames = record { text = capture_of frames; fault = None }

-- by how many frames there are: of more than 2,000,000 nothing is written, and the fault is at the line with which they become so many
abbrev pub outcome_counted : FrameCount → List Coming → Outcome StreamsInput
outcome_counted (Few count) frames = whole_capture frames
outcome_counted (Many line) frames = record { text = []; fault = Some (crowded_table (Many line)) }

-- where the table has a fault nothing is written
abbrev pub outcome_unless : Plan → Option (ℕ × ScriptFault) → FrameCount → List Stream → Outcome StreamsInput
outcome_unless plan None counted streams = outcome_counted counted (plan_frames plan streams)
outcome_unless plan (Some (number, fault)) counted streams = record { text = []; fault = Some (Inputs.Table number fault) }

abbrev pub outcome_in : Plan → FrameCount → Table → Outcome StreamsInput
outcome_in plan counted table = outcome_unless plan table.fault counted table.streams

-- the table of the frames of a capture
abbrev pub table_of : Plan → Script → Table
table_of plan lines = table_by (carried plan) lines

-- by its lines
abbrev pub outcome_by_lines : Plan → Script → Outcome StreamsInput
outcome_by_lines plan lines = outcome_in plan (counted_in (carried plan) (Few 0) lines) (table_of plan lines)

-- by its octets, as a plan has the frames
abbrev pub outcome_of : Plan → List ℕ → Outcome StreamsInput
outcome_of plan table = outcome_by_lines plan (script_of table)
