use Rattle.std.proofs.Common.{◌<◌, ◌-◌}
use Rattle.burst_bounds.proofs.walk.bounds_within.Given as goal

abbrev pub invariant-loop-frames : goal.invariant-loop-frames
invariant-loop-frames g l = 0 < l.frames

abbrev pub decreases-loop-frames : goal.decreases-loop-frames
decreases-loop-frames g l = l.most - l.frames
