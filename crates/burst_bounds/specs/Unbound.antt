-- Why a class has no bounds.
use Rattle.std.specs.Prelude.{◌≡◌, ◌<◌, ◌≤◌, ℕ, ◌+◌, ◌/◌, ◌⊎◌, false, List, sum_by}
use Rattle.wire_time.specs.Moment.{greatest_moment}
use Rattle.gates.specs.Gate.{Plan}
use Rattle.delay_bounds.specs.Walk.{may_by}
use Rattle.any_traffic.specs.Slots.{IsSlot}
use Rattle.burst_bounds.specs.Walk.{IsArrival}
use Rattle.burst_bounds.specs.declared.Talker.{Talker}

-- No window takes d.
abbrev pub IsStuck : Plan → ℕ → ℕ → Type 0
IsStuck plan class d = (t : ℕ) → may_by plan class t d ≡ false

-- how many whole periods of all talkers pass in a time
abbrev pub periods_in : ℕ → List Talker → ℕ
periods_in x talkers = sum_by (λ t. x / t.period) talkers

-- From a moment on the wire isn't idle before so many frames have come: each comes before the one before it has ended.
abbrev pub IsBusyFor : Plan → ℕ → ℕ → (ℕ → ℕ) → ℕ → ℕ → Type 0
IsBusyFor plan class d curve t frames =
    (n x s : ℕ) → n < frames → IsArrival curve (n + 1) x → IsSlot (may_by plan class) d t n s → t + x < s + d

-- From a moment on one of so many frames one behind another ends only behind the greatest moment.
abbrev pub IsLate : Plan → ℕ → ℕ → ℕ → ℕ → Type 0
IsLate plan class d t frames = (n s : ℕ) × (n ≤ frames) × IsSlot (may_by plan class) d t n s × (greatest_moment < s + d)

-- From some moment on the wire is busy for longer than so many frames, or than the greatest moment is away.
abbrev pub IsLong : Plan → ℕ → ℕ → (ℕ → ℕ) → ℕ → Type 0
IsLong plan class d curve frames = (t : ℕ) × (IsBusyFor plan class d curve t frames ⊎ IsLate plan class d t frames)
