use Rattle.std.proofs.Common.{◌≡◌, ◌<◌, ℕ}
use Rattle.shared_bounds.specs.Best.{pitch_at}
use Rattle.shared_bounds.proofs.place.SharedClass.is_tried.Given as goal

-- it is at none before
abbrev pub invariant-loop-place : goal.invariant-loop-place
invariant-loop-place l = (i : ℕ) → i < l.place → pitch_at l.self i ≡ l.pitch → ⊥
