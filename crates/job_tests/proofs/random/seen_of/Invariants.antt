use Rattle.std.proofs.Common.{◌≤◌}
use Rattle.job_tests.proofs.random.seen_of.Given as goal

abbrev pub invariant-loop-step : goal.invariant-loop-step
invariant-loop-step g l = g.G.Gates.is_sound l.gates × (g.G.Gates.moment l.gates ≤ l.last)
