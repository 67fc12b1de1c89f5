use Rattle.std.proofs.Common.{◌≡◌, ◌<◌}
use Rattle.gates.specs.History.{gates}
use Rattle.gates.specs.Current.{IsSteady}
use Rattle.test_support.proofs.reference.plain.PlainGates.next_boundary.Given as goal

abbrev pub invariant-loop-m : goal.invariant-loop-m
invariant-loop-m l = (l.shown ≡ gates l.self.history l.self.moment) × (l.self.moment < l.m) × IsSteady l.self.history l.self.moment l.m
