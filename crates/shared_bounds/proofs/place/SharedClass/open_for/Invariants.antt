use Rattle.std.proofs.Common.{◌≡◌, ◌≤◌, ◌-◌, ◌+◌, None, true}
use Rattle.delay_bounds.specs.Walk.{may_by}
use Rattle.jumping.specs.Position.{IsPlaced}
use Rattle.shared_bounds.proofs.place.SharedClass.open_for.Given as goal

abbrev pub invariant-loop-at : goal.invariant-loop-at
invariant-loop-at l =
    (l.from ≤ l.at) × IsPlaced l.self.schedule.now 0 None l.at l.position
    × (may_by l.self.schedule.now l.class l.from (l.at - l.from) ≡ true)

abbrev pub decreases-loop-at : goal.decreases-loop-at
decreases-loop-at l = l.from + l.limit - l.at
