-- What is written for a table of streams and a script, and the fault that ends it.
use Rattle.std.specs.Prelude.{ℕ, ◌-◌, List, [], Option, Some, None}
use Rattle.text.specs.declared.line_reader.lines.TheConstants.{MAX_LINES}
use Rattle.text.specs.declared.line_reader.lines.Limit.TheVariants.{TooManyLines}
use Rattle.text.specs.Script.{Script, End, Broken, Line, script_of}
use Rattle.script.specs.Outcome.{limit_fault}
use Rattle.script.specs.declared.faults.ScriptFault.{ScriptFault}
use Rattle.traffic.specs.Merge.{merged}
use Rattle.traffic.specs.Room.{counted_in, crowded_line, line_count, lines_taken, passed_on}
use Rattle.traffic.specs.Plan.{judged, plan_frames, table_of}
use Rattle.traffic.specs.Table.{Table}
use Rattle.job.specs.Outcome.{Outcome}
use Rattle.job.specs.declared.fault.Fault.{Fault}
use Rattle.job.specs.declared.fault.Fault.TheVariants as Faults
use Rattle.traffic.specs.declared.faults.StreamsInput.{StreamsInput}
use Rattle.traffic.specs.declared.faults.StreamsInput.TheVariants as Inputs
use Rattle.traffic.specs.declared.frame_count.FrameCount.{FrameCount}
use Rattle.traffic.specs.declared.frame_count.FrameCount.TheVariants.{Few}
use Rattle.traffic.specs.declared.table.Stream.{Stream}
use Rattle.traffic.specs.declared.course.Coming.{Coming}
use Rattle.traffic.specs.declared.plan.Plan.{Plan}

-- the fault of a script: that of a line that passes a limit. What a line says is no matter here.
unfoldable pub fault_in : Script → Option StreamsInput
fault_in End = None
fault_in (Broken number limit) = Some (Inputs.Script number (limit_fault limit))
fault_in (Line number line rest) = fault_in rest

-- the outcome of frames by rising moment and the lines of a script, after a clock line of this number, where there is one
abbrev pub merging : Option ℕ → Script → List Coming → Outcome StreamsInput
merging clock script frames = record { text = merged clock script frames; fault = fault_in script }

-- the fault of a table whose frames have no room in a script: that of the line with which they become many
abbrev pub crowded_table : FrameCount → StreamsInput
crowded_table counted = Inputs.Table (crowded_line counted) (limit_fault TooManyLines)

abbrev pub crowded : FrameCount → Fault StreamsInput
crowded counted = Faults.Input (crowded_table counted)

-- the outcome where the frames take so many lines of the script, if it has room for them: the script's lines have what is left; and where it
-- has no room, nothing is written, and the fault is at the line with which the frames become many
abbrev pub outcome_within : Option ℕ → FrameCount → List Coming → Script → Outcome StreamsInput
outcome_within (Some count) counted frames script = merging None (passed_on (MAX_LINES - count) script) frames
outcome_within None counted frames script = record { text = []; fault = Some (crowded_table counted) }

-- the outcome of frames by rising moment and the lines of a script
abbrev pub outcome_among : FrameCount → List Coming → Script → Outcome StreamsInput
outcome_among counted frames script = outcome_within (lines_taken (line_count None frames)) counted frames script

-- the outcome of a table's streams and the lines of a script: where the table has a fault nothing is written
abbrev pub outcome_unless : Plan → Option (ℕ × ScriptFault) → FrameCount → List Stream → Script → Outcome StreamsInput
outcome_unless plan None counted streams script = outcome_among counted (plan_frames plan streams) script
outcome_unless plan (Some (number, fault)) counted streams script = record { text = []; fault = Some (Inputs.Table number fault) }

-- the outcome of a table and a script, by how many frames the table has
abbrev pub outcome_in : Plan → FrameCount → Table → Script → Outcome StreamsInput
outcome_in plan counted table script = outcome_unless plan table.fault counted table.streams script

-- the outcome of the lines of both
abbrev pub outcome_by_lines : Plan → Script → Script → Outcome StreamsInput
outcome_by_lines plan table script = outcome_in plan (counted_in (judged plan) (Few 0) table) (table_of plan table) script

-- the outcome by the octets of both inputs, as a plan has the frames; a script with no octets is none
abbrev pub outcome_of : Plan → List ℕ → List ℕ → Outcome StreamsInput
outcome_of plan table script = outcome_by_lines plan (script_of table) (script_of script)
