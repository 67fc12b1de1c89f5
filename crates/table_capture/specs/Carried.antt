-- Which streams of a table a capture can have, so that who reads it finds each frame as the table has it.
use Rattle.std.specs.Prelude.{◌≡◌, ◌≤◌, ◌<◌, ◌+◌, ◌-◌, ◌*◌, ◌&&◌, ◌||◌, ◌^◌, not, nat_le, nat_lt, ℕ, Bool, true, List, Result, Ok, Err, if◌then◌else◌}
use Rattle.std.specs.List.{AllByRecursion}
use Rattle.capture.specs.declared.writer.TheConstants.{CAPTURE_END}
use Rattle.script.specs.declared.faults.ScriptFault.{ScriptFault}
use Rattle.script.specs.declared.faults.ScriptFault.TheVariants.{BadNumber, ClockTooLate}
use Rattle.traffic.specs.Plan.{greatest_offset}
use Rattle.traffic.specs.Table.{has_ids}
use Rattle.traffic.specs.declared.course.Coming.{Coming}
use Rattle.traffic.specs.declared.plan.Plan.{Plan}
use Rattle.traffic.specs.declared.table.Stream.{Stream}
use Rattle.table_capture.specs.Octets.{has_tag}

-- 1. Streams

-- A tag says a priority below 8. A frame that has one is no shorter than its header: the addresses, the tag and the type.
abbrev pub is_told : Stream → Bool
is_told s = nat_lt s.priority 8 && (not (has_tag s.tagged s.priority) || nat_le 18 s.shortest)

-- its last frame comes while a capture can say its moment, however late it may be
abbrev pub ends_in_time : Plan → Stream → Bool
ends_in_time plan s = nat_lt (plan.from + greatest_offset plan.timing s + s.jitter + s.period * (s.count - 1)) CAPTURE_END

-- a stream whose frames a capture can have, or its fault
abbrev pub carried : Plan → Stream → Result Stream ScriptFault
carried plan s = if has_ids s && is_told s then (if ends_in_time plan s then Ok s else Err ClockTooLate) else Err BadNumber

-- 2. Their frames

-- a frame that a capture can have
pub record IsCarried (c : Coming) : Type 0 where
  pub moment : c.moment < CAPTURE_END
  pub priority : c.frame.priority < 8
  pub told : has_tag c.frame.tagged c.frame.priority ≡ true → 18 ≤ c.frame.len

abbrev pub AreCarried : List Coming → Type 0
AreCarried frames = AllByRecursion IsCarried frames
