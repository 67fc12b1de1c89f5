-- Moments that need not be looked at, since the slots from an earlier one are no sooner.
use Rattle.std.specs.Prelude.{◌≡◌, ◌<◌, ◌≤◌, ◌⊎◌, ℕ, ◌+◌, ◌-◌, ◌*◌, true, false, Some, None}
use Rattle.gates.specs.Gate.{mask_since}
use Rattle.delay_bounds.specs.Walk.{may_by}
use Rattle.shared_bounds.specs.Blocking.{was_open}
use Rattle.shared_bounds.specs.Place.{IsSlotOf, may_of, own_of}
use Rattle.shared_bounds.specs.Traffic.{needs}
use Rattle.shared_bounds.specs.declared.place.SharedClass.{SharedClass}

-- Those slots from t on that begin by `last` are no sooner, counted from t, than those from u on, counted from u.
abbrev pub IsNear : SharedClass → (last t u : ℕ) → Type 0
IsNear c last t u = (n s : ℕ) → IsSlotOf c t n s → s ≤ last → (r : ℕ) × IsSlotOf c u n r × (r ≤ s + (u - t))

-- so it is from t on up to before another moment
pub record AreNear (c : SharedClass) (last t next : ℕ) : Type 0 where
  pub after : t < next
  pub each : (u : ℕ) → t ≤ u → u < next → IsNear c last t u

-- all gates stay as they are just before t up to before another moment
abbrev pub StaysFrom : SharedClass → (t end : ℕ) → Type 0
StaysFrom c t end = (m : ℕ) → t - 1 ≤ m → m < end
    → mask_since (Some c.schedule.now) 0 None m ≡ mask_since (Some c.schedule.now) 0 None (t - 1)

-- no other class needs longer of which the gate is open just before t and stays so up to another moment
abbrev pub IsReach : SharedClass → (t until reach : ℕ) → Type 0
IsReach c t until reach = (j : ℕ) → j < 8 → (j ≡ c.class → ⊥) → was_open c.schedule.now j t ≡ true
    → may_by c.schedule.now j t (until - t) ≡ true → needs c.traffic.now j ≤ reach

-- The last of the slots of a window from one on, of those that begin by a moment: it is whole pitches behind the first, and the next one is
-- behind that moment or in a later window.
pub record IsLastIn (c : SharedClass) (first by at : ℕ) : Type 0 where
  pub more : ℕ
  pub whole : at ≡ first + more * c.pitch
  pub stays : may_of c first (at - first + own_of c) ≡ true
  pub last : (by < at + c.pitch) ⊎ (may_of c at (c.pitch + own_of c) ≡ false)
