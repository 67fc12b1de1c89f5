use Rattle.std.proofs.Common.{◌≤◌, ◌-◌, ◌^◌, None}
use Rattle.jumping.specs.Position.{StoodBy}
use Rattle.delay_bounds.specs.Walk.{may_by}
use Rattle.window_bounds.specs.Slots.{IsFreeBehind}
use Rattle.window_bounds.proofs.late_run.free_behind.Given as goal

abbrev pub invariant-loop-left : goal.invariant-loop-left
invariant-loop-left l = record {
  few : l.left ≤ l.more;
  free : IsFreeBehind (may_by l.schedule l.class) l.need l.free (l.more - l.left) l.later;
  soon : l.free ≤ 2 ^ 80 → l.later ≤ 2 ^ 80;
  stood : StoodBy l.schedule 0 None l.later l.position;
}

abbrev pub decreases-loop-left : goal.decreases-loop-left
decreases-loop-left l = l.left
