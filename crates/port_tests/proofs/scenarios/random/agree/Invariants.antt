use Rattle.std.proofs.Common.{◌≤◌}
use Rattle.port_tests.proofs.scenarios.random.agree.Given as goal

abbrev pub invariant-loop-t : goal.invariant-loop-t
invariant-loop-t g l = g.G.Gates.is_sound l.first × g.H.Gates.is_sound l.second × (g.G.Gates.moment l.first ≤ l.t) × (g.H.Gates.moment l.second ≤ l.t)
