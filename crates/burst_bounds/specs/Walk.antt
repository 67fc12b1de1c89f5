-- The walk: when frames come at the earliest, and when they start at the latest, from a moment on.
use Rattle.std.specs.Prelude.{◌<◌, ◌≤◌, ℕ, ◌+◌, ◌-◌, ◌*◌, ◌^◌, Bool, List, length, slice_index, slice_index_or}
use Rattle.gates.specs.Gate.{Plan}
use Rattle.delay_bounds.specs.Walk.{may_by}
use Rattle.any_traffic.specs.Slots.{IsSlot}
use Rattle.burst_bounds.specs.declared.Talker.{Talker}

-- The frame behind so many others comes so long after the first at the earliest.
pub record IsArrival (curve : ℕ → ℕ) (before x : ℕ) : Type 0 where
  pub come : before < curve x
  pub least : (y : ℕ) → y < x → curve y ≤ before

-- when each of the first frames comes at the earliest
pub record AreArrivals (curve : ℕ → ℕ) (moments : List ℕ) : Type 0 where
  pub each : (i : ℕ) → i < length moments → IsArrival curve i (slice_index moments i)

-- the slots from a moment on, the first of them
pub record AreSlots (may : ℕ → ℕ → Bool) (d from : ℕ) (slots : List ℕ) : Type 0 where
  pub each : (i : ℕ) → i < length slots → IsSlot may d from i (slice_index slots i)

-- numbers of less than so many bits
pub record AreBelow (bits : ℕ) (numbers : List ℕ) : Type 0 where
  pub each : (i : ℕ) → i < length numbers → slice_index numbers i < 2 ^ bits

-- the talker at a place
abbrev pub talker_at : List Talker → ℕ → Talker
talker_at talkers i = slice_index_or talkers i (record { need = 0; period = 0; jitter = 0 })

-- when a talker's frame comes at the earliest, behind so many others of it
abbrev pub comes_at : Talker → ℕ → ℕ
comes_at t before = before * t.period - t.jitter

-- By a plan with a curve, the bounds hold from a moment on.
pub record AreBoundsFrom (plan : Plan) (class d : ℕ) (curve : ℕ → ℕ) (wait most t : ℕ) : Type 0 where
  pub soon : (x : ℕ) → (s : ℕ) × IsSlot (may_by plan class) d t (curve x - 1) s × (s ≤ t + x + wait)
  pub few : (x n s : ℕ) → IsSlot (may_by plan class) d t n s → t + x ≤ s → curve x ≤ n + most
