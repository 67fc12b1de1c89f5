use Rattle.shared_bounds.specs.Best.{IsBest}
use Rattle.shared_bounds.proofs.place.SharedClass.bounds.Given as goal

abbrev pub invariant-loop-place : goal.invariant-loop-place
invariant-loop-place g l = IsBest l.self l.most l.place l.best
