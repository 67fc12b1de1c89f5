use Rattle.burst_bounds.proofs.repeats.common_divisor.Given as goal

abbrev pub decreases-loop-b : goal.decreases-loop-b
decreases-loop-b l = l.b
