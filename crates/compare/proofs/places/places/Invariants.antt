use Rattle.std.proofs.Common.{drop, ◌≤◌, length}
use Rattle.compare.specs.Places.{AreAt}
use Rattle.compare.proofs.places.places.Given as goal

abbrev pub invariant-loop-left : goal.invariant-loop-left
invariant-loop-left g l = record {
  within : l.left ≤ length l.all;
  at : AreAt (drop l.left l.all) l.places;
}

abbrev pub decreases-loop-left : goal.decreases-loop-left
decreases-loop-left g l = l.left
