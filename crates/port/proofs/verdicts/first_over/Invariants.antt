use Rattle.std.proofs.Common.{◌≡◌, drop}
use Rattle.port.specs.Words.{first_over}
use Rattle.port.proofs.verdicts.first_over.Given as goal

abbrev pub invariant-loop-class : goal.invariant-loop-class
invariant-loop-class l = first_over l.mtu l.class (drop l.class l.limits) ≡ first_over l.mtu 0 l.limits
