use Rattle.std.proofs.Common.{◌≡◌, true}
use Rattle.gates.specs.Open.{open_while}
use Rattle.gates.specs.History.{gates}
use Rattle.test_support.proofs.reference.plain.PlainGates.stays_open.Given as goal

abbrev pub invariant-loop-i : goal.invariant-loop-i
invariant-loop-i l = open_while (gates l.self.history) l.class l.self.moment l.i ≡ true
