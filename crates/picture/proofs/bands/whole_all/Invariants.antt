use Rattle.std.proofs.Common.{◌≡◌, ◌<◌, ◌≤◌, ◌-◌, ℕ, length}
use Rattle.picture.specs.Words.{gates, class_at, open_while, stepped}
use Rattle.picture.proofs.bands.whole_all.Given as goal

abbrev pub invariant-loop-class : goal.invariant-loop-class
invariant-loop-class g l = record {
  eight : length l.classes ≡ 8;
  done : (k : ℕ) → k < l.class → class_at l.classes k ≡ stepped (open_while (gates l.own.history) k l.own.moment (l.upto - l.own.moment)) l.own.moment (class_at l.initial.classes k);
  left : (k : ℕ) → l.class ≤ k → class_at l.classes k ≡ class_at l.initial.classes k;
}
