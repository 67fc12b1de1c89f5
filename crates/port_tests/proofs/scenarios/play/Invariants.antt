use Rattle.port_tests.proofs.scenarios.play.Given as goal

abbrev pub invariant-loop-i : goal.invariant-loop-i
invariant-loop-i g l = g.G.Gates.is_sound l.gates
