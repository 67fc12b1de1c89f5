use Rattle.std.proofs.Common.{◌≡◌, ◌<◌, ◌≤◌, ◌+◌, ◌-◌, ◌*◌, ℕ, length}
use Rattle.picture.specs.Words.{gates, class_at, is_mixed, most_asked, stepped}
use Rattle.picture.proofs.bands.mixed_all.Given as goal

abbrev pub invariant-loop-class : goal.invariant-loop-class
invariant-loop-class g l = record {
  eight : length l.mixed ≡ 8;
  done : (k : ℕ) → k < l.class → class_at l.mixed k ≡ stepped (is_mixed (gates l.own.history) k l.own.moment (l.upto - l.own.moment)) l.own.moment (class_at l.initial.mixed k);
  few : l.visits ≤ l.initial.visits + most_asked l.own.history * l.class;
  left : (k : ℕ) → l.class ≤ k → class_at l.mixed k ≡ class_at l.initial.mixed k;
}
