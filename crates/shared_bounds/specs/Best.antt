-- The least bounds by several pitches: each gives bounds that hold, so the least wait and the least most of all hold.
use Rattle.std.specs.Prelude.{◌≡◌, ◌<◌, ◌⊎◌, ℕ, ◌+◌, min, ◌∷◌, get_or, length, Option, Some, None, Result, Ok, Err}
use Rattle.burst_bounds.specs.declared.Bounds.{Bounds}
use Rattle.shared_bounds.specs.Busy.{AreFound, IsUnseen}
use Rattle.shared_bounds.specs.Least.{AreNoMoreBy, HoldBy, IsLongBy}
use Rattle.shared_bounds.specs.Sharing.{IsPitch}
use Rattle.shared_bounds.specs.Slots.{IsBlocked, IsStuck}
use Rattle.shared_bounds.specs.Traffic.{arrivals_of, needs}
use Rattle.shared_bounds.specs.declared.Unbound.{Unbound}
use Rattle.shared_bounds.specs.declared.Unbound.TheVariants.{Blocked, Long, Memory, Stuck}
use Rattle.shared_bounds.specs.declared.place.SharedClass.{SharedClass}

-- 1. One pitch

-- the same class, its slots so far apart
abbrev pub at_pitch : SharedClass → ℕ → SharedClass
at_pitch c pitch = record c { pitch = pitch }

-- bounds are found by a pitch, with the arrivals of the class
abbrev pub AreFoundAt : SharedClass → (pitch : ℕ) → Bounds → Type 0
AreFoundAt c pitch = AreFound (at_pitch c pitch) (arrivals_of c.traffic.now c.class)

-- or this is why not, of so many slots
abbrev pub IsUnseenAt : SharedClass → (pitch count : ℕ) → Unbound → Type 0
IsUnseenAt c pitch count = IsUnseen (at_pitch c pitch) (arrivals_of c.traffic.now c.class) count

-- 2. Several pitches

-- for how long a frame of the class needs the wire, or of the higher one at the place before this
abbrev pub pitch_at : SharedClass → (place : ℕ) → ℕ
pitch_at c place = needs c.traffic.now (get_or (c.class ∷ c.higher.now) place 0)

-- a pitch is at one of so many places
abbrev pub IsTried : SharedClass → (places pitch : ℕ) → Type 0
IsTried c places pitch = (i : ℕ) × (i < places) × (pitch_at c i ≡ pitch)

-- Each of the bounds is one by some pitch, and by none of those at so many places is there a less one.
pub record AreBest (c : SharedClass) (count places : ℕ) (b : Bounds) : Type 0 where
  pub wait_is : (pitch m : ℕ) × IsPitch (needs c.traffic.now) c.class c.higher.now pitch
      × HoldBy c.schedule.now c.class c.traffic.now c.higher.now pitch b.wait m
  pub most_is : (pitch w : ℕ) × IsPitch (needs c.traffic.now) c.class c.higher.now pitch
      × HoldBy c.schedule.now c.class c.traffic.now c.higher.now pitch w b.most
  pub least : (pitch : ℕ) → 0 < pitch → IsTried c places pitch
      → IsLongBy c.schedule.now c.class c.traffic.now c.higher.now pitch count
      ⊎ AreNoMoreBy c.schedule.now c.class c.traffic.now c.higher.now pitch b.wait b.most

-- by each of these pitches some busy period has more than so many slots
abbrev pub AreLong : SharedClass → (count places : ℕ) → Type 0
AreLong c count places =
    (pitch : ℕ) → 0 < pitch → IsTried c places pitch → IsLongBy c.schedule.now c.class c.traffic.now c.higher.now pitch count

-- the best bounds by the pitches at so many places, if any has some
abbrev pub IsBest : SharedClass → (count places : ℕ) → Option Bounds → Type 0
IsBest c count places None = AreLong c count places
IsBest c count places (Some b) = AreBest c count places b

-- the lesser ones of bounds, if there are any, and of others
abbrev pub lesser_of : Option Bounds → Bounds → Bounds
lesser_of None b = b
lesser_of (Some a) b = record { wait = min a.wait b.wait; most = min a.most b.most }

-- the best bounds, where so much is told by one more pitch
abbrev pub with_told : Option Bounds → Result Bounds Unbound → Result (Option Bounds) Unbound
with_told best (Ok b) = Ok (Some (lesser_of best b))
with_told best (Err Long) = Ok best
with_told best (Err Stuck) = Err Stuck
with_told best (Err Blocked) = Err Blocked
with_told best (Err Memory) = Err Memory

-- why no pitch is of use
abbrev pub IsNoWay : SharedClass → Unbound → Type 0
IsNoWay c Blocked = IsBlocked c × (IsStuck c → ⊥)
IsNoWay c Memory = Unit {0}
IsNoWay c why = ⊥

-- why the bounds aren't found
abbrev pub IsNotFound : SharedClass → (count : ℕ) → Unbound → Type 0
IsNotFound c count Stuck = IsStuck c
IsNotFound c count Blocked = IsBlocked c × (IsStuck c → ⊥)
IsNotFound c count Long = AreLong c count (length c.higher.now + 1)
IsNotFound c count Memory = Unit {0}
