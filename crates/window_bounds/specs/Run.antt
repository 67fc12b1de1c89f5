-- The late run, as far as its frames have been walked.
use Rattle.std.specs.Prelude.{◌≡◌, ◌<◌, ◌≤◌, ◌⊎◌, ℕ, ◌+◌, ◌^◌, Bool, List, length, slice_get, Some}
use Rattle.any_traffic.specs.LateForEver.{AreLateWithin}
use Rattle.any_traffic.specs.PeriodicRoom.{IsLateFrame}
use Rattle.any_traffic.specs.PeriodicWindows.{IsFreeFrom, IsLateStart, PeriodicFlow, can_by, must_before}
use Rattle.window_bounds.specs.Least.{IsReached}
use Rattle.window_bounds.specs.declared.late_run.Run.{Run}

module _ (may : ℕ → ℕ → Bool) (d : ℕ) (flows : List PeriodicFlow) where
  -- Of the first so many frames of the late run none starts with more than `most` waiting, and one does, or it is 0.
  pub record IsMost (sent most : ℕ) : Type 0 where
    pub within : (k : ℕ) → k < sent → (s : ℕ) × IsLateFrame may d flows k s × (can_by flows s ≤ k + most)
    pub reached : (most ≡ 0) ⊎ ((k s : ℕ) × IsLateFrame may d flows k s × (can_by flows s ≡ k + most))

  -- the late run, with the frames whose latest moments are before t
  pub record IsRun (limit t : ℕ) (run : Run) : Type 0 where
    pub sent : run.sent ≡ must_before flows t
    pub few : run.sent ≤ limit
    pub free : IsFreeFrom may d flows t run.free
    pub soon : run.free ≤ 2 ^ 80
    pub most : IsMost run.sent run.most
    pub small : run.most ≤ limit

  -- the waits of these frames
  pub record AreNoted (t : ℕ) (waits : List ℕ) : Type 0 where
    pub count : length waits ≡ length flows
    pub within : AreLateWithin (IsLateStart may d flows) flows waits t
    pub reached : (i wait : ℕ) (flow : PeriodicFlow) → slice_get flows i ≡ Some flow → slice_get waits i ≡ Some wait
        → (wait ≡ 0) ⊎ IsReached may d flows flow wait
