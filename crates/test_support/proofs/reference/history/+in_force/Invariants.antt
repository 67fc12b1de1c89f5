use Rattle.std.proofs.Common.{length}
use Rattle.test_support.proofs.reference.history.+in_force.Given as goal

abbrev pub decreases-in_force : goal.decreases-in_force
decreases-in_force l = length l.history.now
