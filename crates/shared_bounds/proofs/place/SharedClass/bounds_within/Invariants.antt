use Rattle.std.proofs.Common.{◌<◌, ◌-◌}
use Rattle.shared_bounds.proofs.place.SharedClass.bounds_within.Given as goal

abbrev pub invariant-loop-slots : goal.invariant-loop-slots
invariant-loop-slots g l = 0 < l.slots

abbrev pub decreases-loop-slots : goal.decreases-loop-slots
decreases-loop-slots g l = l.most - l.slots
