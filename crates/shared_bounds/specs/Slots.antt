-- The slots of a class that shares its windows, and which of them is the one for so many frames.
use Rattle.std.specs.Prelude.{◌≡◌, ◌<◌, ◌≤◌, ◌^◌, ℕ, ◌+◌, ◌-◌, ◌*◌, ◌⊎◌, Bool, true, false}
use Rattle.any_traffic.specs.SharedSlots.{IsFirstShared, IsNextShared, IsNextWindow}
use Rattle.shared_bounds.specs.Place.{IsSlotOf, above_of, blocking_of, may_of, opening_of, own_of, own_slots}
use Rattle.shared_bounds.specs.Traffic.{needs}
use Rattle.shared_bounds.specs.Unbound.{IsBlockedIn, IsLateIn, IsStuckIn}
use Rattle.shared_bounds.specs.declared.Unbound.{Unbound}
use Rattle.shared_bounds.specs.declared.Unbound.TheVariants.{Blocked, Long}
use Rattle.shared_bounds.specs.declared.place.SharedClass.{SharedClass}
use Rattle.shared_bounds.specs.declared.slots.Slot.{Slot}

-- the first slot of the windows that open behind t
abbrev pub IsWindowSlot : SharedClass → (t s : ℕ) → Type 0
IsWindowSlot c = IsNextWindow (may_of c) (own_of c) c.pitch (blocking_of c)

-- the first slot from t on
abbrev pub IsFirstSlot : SharedClass → (t s : ℕ) → Type 0
IsFirstSlot c = IsFirstShared (may_of c) (own_of c) c.pitch (blocking_of c)

-- the slot behind one
abbrev pub IsNextSlot : SharedClass → (r s : ℕ) → Type 0
IsNextSlot c = IsNextShared (may_of c) (own_of c) c.pitch (blocking_of c)

-- no gate opens behind t
abbrev pub NoneOpens : SharedClass → (t : ℕ) → Type 0
NoneOpens c t = (u : ℕ) → t < u → opening_of c u ≡ false

-- the first opening behind t
pub record IsNextOpening (opening : ℕ → Bool) (t u : ℕ) : Type 0 where
  pub after : t < u
  pub opens : opening u ≡ true
  pub least : (m : ℕ) → t < m → m < u → opening m ≡ false

-- the slot behind n others is one for k frames from t on: no fewer are before it than all of these but the last may cover, and all that may
-- start of the higher classes
abbrev pub IsEnough : SharedClass → (t k n s : ℕ) → Type 0
IsEnough c t k n s = own_slots c * (k - 1) + above_of c (s - t) ≤ n

-- none of the first slots is one for k frames
abbrev pub NoneFor : SharedClass → (t k count : ℕ) → Type 0
NoneFor c t k count = (n s : ℕ) → n < count → IsSlotOf c t n s → IsEnough c t k n s → ⊥

-- A slot from t on that may be the one for k frames: none before it is. It is one of the first, and not behind what is looked at.
pub record IsSought (c : SharedClass) (t k count : ℕ) (slot : Slot) : Type 0 where
  pub is : IsSlotOf c t slot.behind slot.at
  pub among : slot.behind < count
  pub from : t ≤ slot.at
  pub near : slot.at < 2 ^ 72 + 2 ^ 62
  pub none : NoneFor c t k slot.behind

-- One of at most so many slots behind one.
pub record IsOn (c : SharedClass) (old : Slot) (most : ℕ) (new : Slot) : Type 0 where
  pub steps : ℕ
  pub some : 0 < steps
  pub few : steps ≤ most
  pub behind : new.behind ≡ old.behind + steps
  pub is : (t : ℕ) → IsSlotOf c t old.behind old.at → IsSlotOf c t new.behind new.at
  pub later : old.at ≤ new.at

-- The first slot for k frames begins at s.
pub record IsFirstFor (c : SharedClass) (t k s : ℕ) : Type 0 where
  pub behind : ℕ
  pub is : IsSlotOf c t behind s
  pub enough : IsEnough c t k behind s
  pub none : NoneFor c t k behind

-- one of so many slots from t on begins behind the latest moment that is looked at
abbrev pub IsLate : SharedClass → (t count : ℕ) → Type 0
IsLate c = IsLateIn c.schedule.now c.class (needs c.traffic.now) c.pitch

-- no window that opens takes the longest frame behind one of another class
abbrev pub IsBlocked : SharedClass → Type 0
IsBlocked c = IsBlockedIn c.schedule.now c.class (needs c.traffic.now)

-- no window takes the longest frame
abbrev pub IsStuck : SharedClass → Type 0
IsStuck c = IsStuckIn c.schedule.now c.class (needs c.traffic.now)

-- the gate is shut at times
abbrev pub IsShut : SharedClass → ℕ → Type 0
IsShut c at = (d : ℕ) × (may_of c at d ≡ false)

-- why there is no slot behind a moment
abbrev pub IsNoNext : SharedClass → ℕ → Unbound → Type 0
IsNoNext c at Long = 2 ^ 72 < at
IsNoNext c at Blocked = IsBlocked c
IsNoNext c at why = ⊥

-- why none of so many slots is known to be one for k frames
abbrev pub IsNoneFor : SharedClass → (t k count : ℕ) → Unbound → Type 0
IsNoneFor c t k count Long = NoneFor c t k count ⊎ IsLate c t count
IsNoneFor c t k count Blocked = IsBlocked c
IsNoneFor c t k count why = ⊥
