use Rattle.std.proofs.Common.{◌≤◌, ◌-◌, ◌+◌, None}
use Rattle.jumping.specs.Position.{StoodBy}
use Rattle.delay_bounds.specs.Walk.{may_by}
use Rattle.any_traffic.specs.Slots.{IsSlot}
use Rattle.burst_bounds.proofs.rate.cycle_share.Given as goal

abbrev pub invariant-loop-at : goal.invariant-loop-at
invariant-loop-at l = record {
  row : IsSlot (may_by l.schedule l.class) l.need l.from l.slots l.at;
  within : l.at ≤ l.end;
  few : l.slots ≤ l.at;
  stood : StoodBy l.schedule 0 None (l.at + l.need) l.position;
}

abbrev pub decreases-loop-at : goal.decreases-loop-at
decreases-loop-at l = l.end - l.at
