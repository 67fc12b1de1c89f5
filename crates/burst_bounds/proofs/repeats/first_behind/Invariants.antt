use Rattle.std.proofs.Common.{◌-◌, ◌≤◌, length}
use Rattle.burst_bounds.proofs.repeats.first_behind.Given as goal

abbrev pub invariant-loop-i : goal.invariant-loop-i
invariant-loop-i l = l.place ≤ l.i

abbrev pub decreases-loop-i : goal.decreases-loop-i
decreases-loop-i l = length l.moments - l.i
