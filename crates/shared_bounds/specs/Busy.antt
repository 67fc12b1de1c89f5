-- The busy period from a moment on: when its frames start at the latest, and when they come at the earliest.
use Rattle.std.specs.Prelude.{◌≡◌, ◌<◌, ◌≤◌, ℕ, ◌+◌, ◌-◌, ◌^◌, List, length, slice_index}
use Rattle.any_traffic.specs.SharedBounds.{AreSharedBounds, IsSharedBusyPeriod}
use Rattle.burst_bounds.specs.Busy.{HasFrames, IsIdleBehind}
use Rattle.burst_bounds.specs.Walk.{AreArrivals}
use Rattle.burst_bounds.specs.declared.Bounds.{Bounds}
use Rattle.shared_bounds.specs.Place.{blocking_of, own_of}
use Rattle.shared_bounds.specs.Slots.{IsBlocked, IsFirstFor}
use Rattle.shared_bounds.specs.Traffic.{needs, start_curves}
use Rattle.shared_bounds.specs.Unbound.{IsBusyIn, IsLongIn}
use Rattle.shared_bounds.specs.declared.Unbound.{Unbound}
use Rattle.shared_bounds.specs.declared.Unbound.TheVariants.{Blocked, Long, Memory, Stuck}
use Rattle.shared_bounds.specs.declared.place.SharedClass.{SharedClass}

-- The latest starts of the frames of a busy period: each is the first slot for it and those before it. Behind the last the wire is idle, and
-- behind none before it.
pub record IsBusyTime (c : SharedClass) (t : ℕ) (starts moments : List ℕ) : Type 0 where
  pub each : (i : ℕ) → i < length starts → IsFirstFor c t (i + 1) (slice_index starts i)
  pub idle : IsIdleBehind (own_of c) t starts moments (length starts)
  pub busy : (n : ℕ) → n + 1 < length starts → t + slice_index moments (n + 1) < slice_index starts n + own_of c

-- they begin by the latest moment that is looked at, or soon behind it
pub record AreEarly (starts : List ℕ) : Type 0 where
  pub each : (i : ℕ) → i < length starts → slice_index starts i < 2 ^ 72 + 2 ^ 62

-- bounds that hold in the busy period from t on
abbrev pub HoldFrom : SharedClass → (ℕ → ℕ) → (wait most t : ℕ) → Type 0
HoldFrom c curve wait most t = IsSharedBusyPeriod c.schedule.now c.class (needs c.traffic.now) (blocking_of c) c.pitch curve
    (start_curves c.traffic.now) c.higher.now wait most t

-- bounds that hold at all moments of all times
abbrev pub HoldAlways : SharedClass → (ℕ → ℕ) → (wait most : ℕ) → Type 0
HoldAlways c curve wait most = AreSharedBounds c.schedule.now c.class (needs c.traffic.now) (blocking_of c) c.pitch curve
    (start_curves c.traffic.now) c.higher.now wait most

-- no bounds that hold are less than these
pub record AreUnder (c : SharedClass) (curve : ℕ → ℕ) (b : Bounds) : Type 0 where
  pub busy : (w m : ℕ) → ((t : ℕ) → HoldFrom c curve w m t) → (b.wait ≤ w) × (b.most ≤ m)
  pub always : (w m : ℕ) → HoldAlways c curve w m → (b.wait ≤ w) × (b.most ≤ m)

-- the busy period from t on does not end within so many slots
abbrev pub IsBusyFor : SharedClass → (ℕ → ℕ) → (t count : ℕ) → Type 0
IsBusyFor c curve = IsBusyIn c.schedule.now c.class (needs c.traffic.now) c.pitch curve (start_curves c.traffic.now) c.higher.now

-- from some moment on
abbrev pub IsLong : SharedClass → (ℕ → ℕ) → (count : ℕ) → Type 0
IsLong c curve = IsLongIn c.schedule.now c.class (needs c.traffic.now) c.pitch curve (start_curves c.traffic.now) c.higher.now

-- A curve gives at least one frame and rises, and these are its arrivals.
pub record IsRead (curve : ℕ → ℕ) (moments : List ℕ) : Type 0 where
  pub rises : (x y : ℕ) → x ≤ y → curve x ≤ curve y
  pub some : (x : ℕ) → 0 < curve x
  pub come : AreArrivals curve moments

-- why the bounds aren't seen by so many slots from each moment on
abbrev pub IsUnseen : SharedClass → (ℕ → ℕ) → (count : ℕ) → Unbound → Type 0
IsUnseen c curve count Long = IsLong c curve count
IsUnseen c curve count Blocked = IsBlocked c
IsUnseen c curve count Memory = Unit {0}
IsUnseen c curve count Stuck = ⊥

-- so it is for each curve with these arrivals
abbrev pub IsUnseenBy : SharedClass → (moments : List ℕ) → Unbound → Type 0
IsUnseenBy c moments why = (curve : ℕ → ℕ) → IsRead curve moments → IsUnseen c curve (length moments - 1) why

-- Bounds have become the greater ones of what they were and of what the busy period from t on shows, whose last frame starts so late.
pub record IsSeen (c : SharedClass) (t : ℕ) (moments : List ℕ) (old new : Bounds) (last : ℕ) : Type 0 where
  pub starts : List ℕ
  pub time : IsBusyTime c t starts moments
  pub last_is : last ≡ slice_index starts (length starts - 1)
  pub early : last < 2 ^ 72 + 2 ^ 62
  pub has : HasFrames old t starts moments (length starts) new

-- Bounds hold in the busy period from each moment, and none that hold are less.
pub record AreFound (c : SharedClass) (curve : ℕ → ℕ) (b : Bounds) : Type 0 where
  pub hold : (t : ℕ) → HoldFrom c curve b.wait b.most t
  pub under : AreUnder c curve b

-- for each curve with these arrivals
abbrev pub AreFoundBy : SharedClass → (moments : List ℕ) → Bounds → Type 0
AreFoundBy c moments b = (curve : ℕ → ℕ) → IsRead curve moments → AreFound c curve b
