-- Moments from which the bounds hold.
use Rattle.std.specs.Prelude.{◌≡◌, ◌<◌, ◌≤◌, ◌⊎◌, ℕ, ◌+◌, ◌-◌, ◌*◌, true, false, length}
use Rattle.gates.specs.Gate.{Plan, in_ps, prefix}
use Rattle.delay_bounds.specs.Walk.{may_by}
use Rattle.any_traffic.specs.BusyPeriod.{IsBusyPeriod}
use Rattle.burst_bounds.specs.Walk.{AreBoundsFrom}

-- Bounds hold from a moment on: up to when the wire is idle, or for ever.
abbrev pub IsGood : Plan → ℕ → ℕ → (ℕ → ℕ) → ℕ → ℕ → ℕ → Type 0
IsGood plan class d curve wait most t = IsBusyPeriod plan class d curve wait most t ⊎ AreBoundsFrom plan class d curve wait most t

-- Before the end of a window so many frames can be sent, one behind another.
abbrev pub FitBefore : Plan → ℕ → ℕ → ℕ → ℕ → Type 0
FitBefore plan class d end k = (j : ℕ) → 0 < j → j ≤ k → (j * d ≤ end) × (may_by plan class (end - j * d) d ≡ true)

-- Bounds hold from each moment that is just too late for so many frames to be sent before the end of a window.
abbrev pub AreGoodBefore : Plan → ℕ → ℕ → (ℕ → ℕ) → ℕ → ℕ → ℕ → Type 0
AreGoodBefore plan class d curve wait most end = (k : ℕ) → 0 < k → FitBefore plan class d end k
    → IsGood plan class d curve wait most (end + 1 - k * d)

-- Bounds hold from all such moments, at the end of each window of a cycle: the class is shut where an entry begins, and was open just
-- before.
abbrev pub AreGoodAtWindows : Plan → ℕ → ℕ → (ℕ → ℕ) → ℕ → ℕ → Type 0
AreGoodAtWindows plan class d curve wait most =
    (i : ℕ) → i < length plan.entries → may_by plan class (in_ps plan.cycle + prefix plan.entries i) 1 ≡ false
    → may_by plan class (in_ps plan.cycle + prefix plan.entries i - 1) 1 ≡ true
    → AreGoodBefore plan class d curve wait most (in_ps plan.cycle + prefix plan.entries i)
