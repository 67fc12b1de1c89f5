use Rattle.std.proofs.Common.{length}
use Rattle.test_support.proofs.reference.history.+latest.Given as goal

abbrev pub decreases-latest : goal.decreases-latest
decreases-latest l = length l.history.now
