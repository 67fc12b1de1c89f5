-- Classes that share windows.
use Rattle.std.specs.Prelude.{◌≡◌, ◌<◌, ℕ, List, ◌∷◌, Some, true, slice_get}
use Rattle.gates.specs.Gate.{Plan}
use Rattle.delay_bounds.specs.Walk.{may_by}
use Rattle.any_traffic.specs.SharedSlots.{AreAbove}

-- Two classes share windows: at some moment both are open. What the end of the cycle cuts off opens nothing.
abbrev pub Share : Plan → ℕ → ℕ → Type 0
Share plan i j = (u : ℕ) × (may_by plan i u 1 ≡ true) × (may_by plan j u 1 ≡ true)

-- the higher classes that share windows with a class, each once, from the lowest up
pub record AreHigher (plan : Plan) (class : ℕ) (higher : List ℕ) : Type 0 where
  pub all : AreAbove plan class higher
  pub above : (i j : ℕ) → slice_get higher i ≡ Some j → class < j
  pub listed : (i j : ℕ) → slice_get higher i ≡ Some j → j < 8
  pub share : (i j : ℕ) → slice_get higher i ≡ Some j → Share plan class j
  pub order : (i k j l : ℕ) → i < k → slice_get higher i ≡ Some j → slice_get higher k ≡ Some l → j < l

-- The pitches that are tried: for how long a frame of the class, or of a higher one that shares with it, needs the wire at most.
pub record IsPitch (need : ℕ → ℕ) (class : ℕ) (higher : List ℕ) (pitch : ℕ) : Type 0 where
  pub some : 0 < pitch
  pub of : (i j : ℕ) × (slice_get (class ∷ higher) i ≡ Some j) × (need j ≡ pitch)
