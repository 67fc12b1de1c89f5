use Rattle.std.proofs.Common.{◌≡◌, replicate}
use Rattle.burst_bounds.proofs.rate.same_times.Given as goal

abbrev pub invariant-loop-i : goal.invariant-loop-i
invariant-loop-i g l = l.times.items ≡ replicate l._i l.time
