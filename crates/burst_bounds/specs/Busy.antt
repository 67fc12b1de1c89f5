-- The busy time from a moment on, by its slots and by when the frames come at the earliest.
use Rattle.std.specs.Prelude.{◌≡◌, ◌<◌, ◌≤◌, ℕ, ◌+◌, ◌-◌, ◌⊎◌, max, List, length, slice_index}
use Rattle.burst_bounds.specs.declared.Bounds.{Bounds}

-- no later moment is earlier
pub record Rises (moments : List ℕ) : Type 0 where
  pub each : (i j : ℕ) → i ≤ j → j < length moments → slice_index moments i ≤ slice_index moments j

-- The wire is idle behind so many frames: the next comes when the last of them has ended.
pub record IsIdleBehind (d from : ℕ) (slots moments : List ℕ) (frames : ℕ) : Type 0 where
  pub some : 0 < frames
  pub slotted : frames ≤ length slots
  pub follows : frames < length moments
  pub idle : slice_index slots (frames - 1) + d ≤ from + slice_index moments frames

-- The wire isn't idle behind any of the frames, of which it is known when the next comes.
pub record IsBusyUntil (d from : ℕ) (slots moments : List ℕ) : Type 0 where
  pub busy : (n : ℕ) → n < length slots → n + 1 < length moments → from + slice_index moments (n + 1) < slice_index slots n + d

-- none of so many frames waits longer, and one does for so long, or none waits
pub record IsLongest (from : ℕ) (slots moments : List ℕ) (frames wait : ℕ) : Type 0 where
  pub within : (i : ℕ) → i < frames → slice_index slots i ≤ from + slice_index moments i + wait
  pub reached : (wait ≡ 0) ⊎ ((i : ℕ) × (i < frames) × (slice_index slots i ≡ from + slice_index moments i + wait))

-- When one of so many frames comes no more wait, itself among them: those whose slots are not before then. At one of them so many do, or
-- none ever waits.
pub record IsMost (from : ℕ) (slots moments : List ℕ) (frames most : ℕ) : Type 0 where
  pub within : (i n : ℕ) → i < frames → n < length slots → from + slice_index moments i ≤ slice_index slots n → i + 1 ≤ n + most
  pub reached : (most ≡ 0) ⊎ ((i n : ℕ) × (i < frames) × (n < length slots) × (from + slice_index moments i ≤ slice_index slots n) ×
      (i + 1 ≡ n + most))

-- bounds, and those of so many frames: each is the greater of the two
pub record HasFrames (old : Bounds) (from : ℕ) (slots moments : List ℕ) (frames : ℕ) (new : Bounds) : Type 0 where
  pub wait : ℕ
  pub most : ℕ
  pub longest : IsLongest from slots moments frames wait
  pub greatest : IsMost from slots moments frames most
  pub wait_is : new.wait ≡ max wait old.wait
  pub most_is : new.most ≡ max most old.most
