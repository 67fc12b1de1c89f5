use Rattle.burst_bounds.specs.Busy.{IsLongest}
use Rattle.burst_bounds.proofs.busy.longest_wait.Given as goal

abbrev pub invariant-loop-i : goal.invariant-loop-i
invariant-loop-i l = IsLongest l.from l.slots l.moments l.i l.wait
