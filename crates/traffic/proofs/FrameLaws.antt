-- The frames of a stream, one after another.
use Rattle.std.proofs.Common.{◌≡◌, ◌<◌, ◌+◌, ℕ, zero, suc, [], ◌∷◌, Some, None, refl, ap, ◌∙◌, arith}
use Rattle.traffic.specs.Words.{first_of, frame_after, frames_after, Course}

pub none_left : (s : Course) (k n : ℕ) → n ≡ 0 → first_of (frames_after s k n) ≡ None
unfolding frames_after
none_left s k zero e = refl
none_left s k (suc n) e = absurd (omega (arith, e))

pub first_left : (s : Course) (k n : ℕ) → 0 < n → first_of (frames_after s k n) ≡ Some (frame_after s k)
unfolding frames_after
first_left s k zero e = absurd (omega (arith, e))
first_left s k (suc n) e = refl

-- what is to come, by the next frame and what is to come after it
more : (s : Course) (k m : ℕ) → frames_after s k (suc m) ≡ frame_after s k ∷ frames_after s (k + 1) m
unfolding frames_after
more s k m = refl

pub more_left : (s : Course) (k n m : ℕ) → n ≡ suc m → frames_after s k n ≡ frame_after s k ∷ frames_after s (k + 1) m
more_left s k n m e = ap (frames_after s k) e ∙ more s k m

none : (s : Course) (k : ℕ) → frames_after s k 0 ≡ []
unfolding frames_after
none s k = refl

pub nothing_left : (s : Course) (k n : ℕ) → n ≡ 0 → frames_after s k n ≡ []
nothing_left s k n e = ap (frames_after s k) e ∙ none s k
