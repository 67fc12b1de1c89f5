use Rattle.std.proofs.Common.{◌-◌, length}
use Rattle.burst_bounds.proofs.repeats.first_again.Given as goal

abbrev pub decreases-loop-i : goal.decreases-loop-i
decreases-loop-i l = length l.slots - l.i
