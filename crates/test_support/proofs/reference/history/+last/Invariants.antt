use Rattle.std.proofs.Common.{length}
use Rattle.test_support.proofs.reference.history.+last.Given as goal

abbrev pub decreases-last : goal.decreases-last
decreases-last l = length l.history.now
