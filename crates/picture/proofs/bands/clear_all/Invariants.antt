use Rattle.std.proofs.Common.{◌≡◌, ◌<◌, ℕ, length}
use Rattle.picture.specs.Words.{class_at, no_bands}
use Rattle.picture.proofs.bands.clear_all.Given as goal

abbrev pub invariant-loop-class : goal.invariant-loop-class
invariant-loop-class g l = record {
  eight : length l.classes ≡ 8;
  done : (k : ℕ) → k < l.class → class_at l.classes k ≡ no_bands;
}
