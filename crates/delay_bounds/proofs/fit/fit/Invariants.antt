use Rattle.std.proofs.Common.{◌-◌, ◌<◌, ◌≤◌, None, Some}
use Rattle.gates.specs.Gate.{mask_since}
use Rattle.gates.specs.Stay.{NoneFrom}
use Rattle.jumping.specs.Position.{IsPlaced}
use Rattle.delay_bounds.proofs.fit.fit.Given as goal

abbrev pub invariant-loop-visits : goal.invariant-loop-visits
invariant-loop-visits l =
    (l.from ≤ l.moment) × (l.moment < l.stop)
    × IsPlaced l.schedule 0 None l.moment l.position
    × NoneFrom (mask_since (Some l.schedule) 0 None) l.class l.length l.from l.moment

abbrev pub decreases-loop-visits : goal.decreases-loop-visits
decreases-loop-visits l = l.stop - l.moment
