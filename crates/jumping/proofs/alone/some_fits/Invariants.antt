use Rattle.jumping.proofs.RoundLaws.{AreLeft}
use Rattle.jumping.proofs.alone.some_fits.Given as goal

abbrev pub invariant-loop-left : goal.invariant-loop-left
invariant-loop-left l = AreLeft l.schedule l.heads l.place.at l.left

abbrev pub decreases-loop-left : goal.decreases-loop-left
decreases-loop-left l = l.left
