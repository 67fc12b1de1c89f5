use Rattle.std.proofs.Common.{◌≡◌, ◌+◌, drop}
use Rattle.burst_bounds.specs.Overload.{wholes}
use Rattle.burst_bounds.proofs.rate.slots_left.Given as goal

abbrev pub invariant-loop-i : goal.invariant-loop-i
invariant-loop-i l = l.left + wholes l.talkers l.times ≡ l.slots + wholes (drop l.i l.talkers) (drop l.i l.times)
