-- The frames of the streams of a table, as a plan has them within what the table leaves open.
use Rattle.std.specs.Prelude.{◌≡◌, ◌≤◌, ◌+◌, ◌-◌, ◌*◌, ◌^◌, nat_le, ℕ, Bool, List, [], ◌∷◌, Option, Some, None, Result, Ok, Err, if◌then◌else◌}
use Rattle.wire_time.specs.Moment.{greatest_moment}
use Rattle.text.specs.Script.{Script}
use Rattle.script.specs.declared.faults.ScriptFault.{ScriptFault}
use Rattle.script.specs.declared.faults.ScriptFault.TheVariants.{BadNumber, ClockTooLate}
use Rattle.traffic.specs.Draws.{draw, value}
use Rattle.traffic.specs.Frames.{frames_in_turn}
use Rattle.traffic.specs.Table.{IsSaid, Table, earliest, has_ids, table_by}
use Rattle.traffic.specs.declared.course.Coming.{Coming}
use Rattle.traffic.specs.declared.course.Course.{Course}
use Rattle.traffic.specs.declared.plan.Plan.{Plan}
use Rattle.traffic.specs.declared.plan.Timing.{Timing}
use Rattle.traffic.specs.declared.plan.Timing.TheVariants.{Earliest, Latest, Drawn}
use Rattle.traffic.specs.declared.table.Stream.{Stream}

-- offsets count from a moment
abbrev pub timed_from : Timing → ℕ → Plan
timed_from timing from = record { from = from; timing = timing }

-- 1. Streams whose frames can be frames of a script

-- the greatest offset that a stream may have: one that is not known counts from 0, and where values are drawn it is in the first period
abbrev pub greatest_unknown : Timing → ℕ → ℕ
greatest_unknown Earliest period = 0
greatest_unknown Latest period = 0
greatest_unknown (Drawn seed) period = period - 1

abbrev pub offset_or : ℕ → Option ℕ → ℕ
offset_or unknown None = unknown
offset_or unknown (Some offset) = offset

abbrev pub greatest_offset : Timing → Stream → ℕ
greatest_offset timing s = offset_or (greatest_unknown timing s.period) s.offset

-- its last frame comes by the greatest moment, however late it may be
abbrev pub ends_in_time : Plan → Stream → Bool
ends_in_time plan s = nat_le (plan.from + greatest_offset plan.timing s + s.jitter + s.period * (s.count - 1)) greatest_moment

pub record IsStream (plan : Plan) (s : Stream) : Type 0 where
  pub ids : s.first_id + s.count ≤ 2 ^ 64
  pub ends : plan.from + greatest_offset plan.timing s + s.jitter + s.period * (s.count - 1) ≤ greatest_moment
  pub lengths : s.shortest ≤ s.len
  pub period : s.period ≤ greatest_moment

-- such a stream, or its fault
abbrev pub judged : Plan → Stream → Result Stream ScriptFault
judged plan s = if has_ids s then (if ends_in_time plan s then Ok s else Err ClockTooLate) else Err BadNumber

-- a stream of a table, by what is judged of one
pub record IsKept (judge : Stream → Result Stream ScriptFault) (s : Stream) : Type 0 where
  pub said : IsSaid s
  pub kept : judge s ≡ Ok s

-- the table of frames of a script
abbrev pub table_of : Plan → Script → Table
table_of plan script = table_by (judged plan) script

-- 2. Their frames

-- the offset of a stream by its seed: one that is not known is what the first value draws
abbrev pub offset_drawn : ℕ → Stream → ℕ
offset_drawn seed s = offset_or (draw seed 0 (s.period - 1)) s.offset

-- each frame at its earliest moment, as long as the longest
abbrev pub exact_course : ℕ → Stream → Course
exact_course first s = record {
  first_id = s.first_id;
  priority = s.priority;
  len = s.len;
  shortest = s.len;
  tagged = s.tagged;
  first = first;
  period = s.period;
  jitter = 0;
  count = s.count;
  seed = None;
}

-- the frames of the stream at a place; where values are drawn, each stream has a seed of its own
abbrev pub course_by : Timing → ℕ → ℕ → Stream → Course
course_by Earliest from place s = exact_course (from + earliest s) s
course_by Latest from place s = exact_course (from + earliest s + s.jitter) s
course_by (Drawn seed) from place s = record (exact_course (from + offset_drawn (value seed place) s) s) {
  shortest = s.shortest;
  jitter = s.jitter;
  seed = Some (value seed place);
}

abbrev pub course_of : Plan → ℕ → Stream → Course
course_of plan place s = course_by plan.timing plan.from place s

-- those of streams, of which the first stands at a place
abbrev pub courses_from : Plan → ℕ → List Stream → List Course
courses_from plan place [] = []
courses_from plan place (s ∷ streams) = course_of plan place s ∷ courses_from plan (place + 1) streams

-- the frames of all streams of a table, by rising moment, and at one moment in the order of the table
abbrev pub plan_frames : Plan → List Stream → List Coming
plan_frames plan streams = frames_in_turn (courses_from plan 0 streams)
