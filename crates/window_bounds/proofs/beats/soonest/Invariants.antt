use Rattle.std.proofs.Common.{◌≡◌, ◌<◌, ◌≤◌, ℕ}
use Rattle.window_bounds.specs.Beats.{beat_at}
use Rattle.window_bounds.proofs.beats.soonest.Given as goal

abbrev pub invariant-loop-i : goal.invariant-loop-i
invariant-loop-i l = record {
  one : (j : ℕ) × (j < l.i) × (l.first ≡ (beat_at l.beats j).next);
  least : (j : ℕ) → j < l.i → l.first ≤ (beat_at l.beats j).next;
}
