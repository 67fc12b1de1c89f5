use Rattle.std.proofs.Common.{◌≡◌, ◌<◌, ◌≤◌, ℕ, length}
use Rattle.picture.specs.Words.{opens, class_at, stepped}
use Rattle.picture.proofs.bands.step_all.Given as goal

abbrev pub invariant-loop-class : goal.invariant-loop-class
invariant-loop-class g l = record {
  eight : length l.classes ≡ 8;
  done : (k : ℕ) → k < l.class → class_at l.classes k ≡ stepped (opens l.mask k) l.moment (class_at l.initial.classes k);
  left : (k : ℕ) → l.class ≤ k → class_at l.classes k ≡ class_at l.initial.classes k;
}
