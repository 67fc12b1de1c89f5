-- How far a busy time is looked at, and what is so then.
use Rattle.std.specs.Prelude.{◌≡◌, ◌<◌, ◌≤◌, ℕ, ◌+◌, ◌-◌, ◌*◌, ◌%◌, ◌^◌, true, false, List, length, slice_index, Option, Some, None}
use Rattle.gates.specs.Gate.{Plan, in_ps, prefix}
use Rattle.delay_bounds.specs.ForEver.{Repeats}
use Rattle.delay_bounds.specs.Walk.{may_by}
use Rattle.any_traffic.specs.AnyTraffic.{AreCurveBounds}
use Rattle.any_traffic.specs.BusyPeriod.{IsBusyPeriod}
use Rattle.burst_bounds.specs.Busy.{IsIdleBehind}
use Rattle.burst_bounds.specs.Good.{AreGoodBefore}
use Rattle.burst_bounds.specs.Unbound.{IsLong, IsStuck, periods_in}
use Rattle.burst_bounds.specs.Walk.{AreArrivals, AreBoundsFrom, talker_at}
use Rattle.burst_bounds.specs.declared.Bounds.{Bounds}
use Rattle.burst_bounds.specs.declared.Talker.{Talker}
use Rattle.burst_bounds.specs.declared.Unbound.{Unbound}
use Rattle.burst_bounds.specs.declared.Unbound.TheVariants.{Overloaded, Stuck, Long, Memory}
use Rattle.burst_bounds.specs.declared.repeats.Repeat.{Repeat}
use Rattle.burst_bounds.specs.declared.moments.Reach.{Reach}
use Rattle.burst_bounds.specs.declared.moments.Reach.TheVariants.{Idle, Again}

-- After such a time the gates are as before, and so many frames more have come.
pub record ComesAgain (plan : Plan) (class : ℕ) (curve : ℕ → ℕ) (r : Repeat) : Type 0 where
  pub lasts : 0 < r.time
  pub gates : Repeats (may_by plan class) r.time
  pub come : (x : ℕ) → curve (x + r.time) ≡ curve x + r.frames

-- by such a time, if there is one
abbrev pub MayComeAgain : Plan → ℕ → (ℕ → ℕ) → Option Repeat → Type 0
MayComeAgain plan class curve None = Unit {0}
MayComeAgain plan class curve (Some r) = ComesAgain plan class curve r

-- The wire is idle behind at most so many frames from a moment on, and the bounds hold up to then.
pub record IsIdleBy (plan : Plan) (class d : ℕ) (curve : ℕ → ℕ) (wait most t frames : ℕ) : Type 0 where
  pub time : IsBusyPeriod plan class d curve wait most t
  pub few : curve time.last ≤ frames

-- from a moment on the bounds hold, up to when the wire is idle, or for ever
abbrev pub IsReach : Plan → ℕ → ℕ → (ℕ → ℕ) → Bounds → ℕ → Reach → Type 0
IsReach plan class d curve b t (Idle frames) = IsIdleBy plan class d curve b.wait b.most t frames
IsReach plan class d curve b t (Again frames) = AreBoundsFrom plan class d curve b.wait b.most t

-- none are less than these
abbrev pub AreUnder : Plan → ℕ → ℕ → (ℕ → ℕ) → Bounds → Type 0
AreUnder plan class d curve b = (w m : ℕ) → AreCurveBounds plan class d curve w m → (b.wait ≤ w) × (b.most ≤ m)

-- some are no less
abbrev pub AreWithin : Bounds → Bounds → Type 0
AreWithin a b = (a.wait ≤ b.wait) × (a.most ≤ b.most)

-- The slots from a moment on come again: one and the one so many behind it are so far apart, and each frame from one on that comes behind
-- the first of the two. So many frames show all then.
pub record ComesBack (from : ℕ) (slots moments : List ℕ) (r : Repeat) (frames : ℕ) : Type 0 where
  pub again : ℕ
  pub behind : ℕ
  pub order : again ≤ behind
  pub sum : frames ≡ behind + r.frames
  pub slotted : frames ≤ length slots
  pub known : frames ≤ length moments
  pub same : slice_index slots (again + r.frames) ≡ slice_index slots again + r.time
  pub later : slice_index slots again < from + slice_index moments behind
  pub inside : behind < length moments
  pub first : again + r.frames < length slots

-- how many frames are looked at
abbrev pub frames_of : Reach → ℕ
frames_of (Idle frames) = frames
frames_of (Again frames) = frames

-- what is seen of slots and moments
abbrev pub IsSeen : ℕ → ℕ → List ℕ → List ℕ → Option Repeat → Reach → Type 0
IsSeen d from slots moments repeat (Idle frames) = IsIdleBehind d from slots moments frames
IsSeen d from slots moments repeat (Again frames) = (r : Repeat) × (repeat ≡ Some r) × ComesBack from slots moments r frames

-- a time that is no longer than any that is looked at
abbrev pub IsSmall : Repeat → Type 0
IsSmall r = r.time < 2 ^ 127

-- Moments are the arrivals of a curve, which rises from 1 on; and it comes again by such a time, if there is one.
pub record IsRead (plan : Plan) (class d : ℕ) (curve : ℕ → ℕ) (moments : List ℕ) (repeat : Option Repeat) : Type 0 where
  pub above : 0 < d
  pub rises : (x y : ℕ) → x ≤ y → curve x ≤ curve y
  pub some : (x : ℕ) → 0 < curve x
  pub come : AreArrivals curve moments
  pub again : MayComeAgain plan class curve repeat

-- Why the bounds of a curve aren't seen, by so many of its arrivals.
abbrev pub IsUnseen : Plan → ℕ → ℕ → (ℕ → ℕ) → ℕ → Unbound → Type 0
IsUnseen plan class d curve count Long = IsLong plan class d curve (count - 1)
IsUnseen plan class d curve count Stuck = IsStuck plan class d
IsUnseen plan class d curve count Memory = Unit {0}
IsUnseen plan class d curve count Overloaded = ⊥

-- Bounds have become so that they hold from all moments around the end of a window, and are still not greater than any that hold.
pub record IsWindowSeen (plan : Plan) (class d end : ℕ) (moments : List ℕ) (repeat : Option Repeat) (old new : Bounds) : Type 0 where
  pub grown : AreWithin old new
  pub good : (curve : ℕ → ℕ) → IsRead plan class d curve moments repeat → AreGoodBefore plan class d curve new.wait new.most end
  pub under : (curve : ℕ → ℕ) → IsRead plan class d curve moments repeat → AreUnder plan class d curve old → AreUnder plan class d curve new

-- the same for those windows that end where one of the first entries begins
pub record AreWindowsSeen (plan : Plan) (class d : ℕ) (moments : List ℕ) (repeat : Option Repeat) (count : ℕ)
    (old new : Bounds) : Type 0 where
  pub grown : AreWithin old new
  pub good : (curve : ℕ → ℕ) → IsRead plan class d curve moments repeat → (i : ℕ) → i < count
      → may_by plan class (in_ps plan.cycle + prefix plan.entries i) 1 ≡ false → may_by plan class
      (in_ps plan.cycle + prefix plan.entries i - 1) 1 ≡ true
      → AreGoodBefore plan class d curve new.wait new.most (in_ps plan.cycle + prefix plan.entries i)
  pub under : (curve : ℕ → ℕ) → IsRead plan class d curve moments repeat → AreUnder plan class d curve old → AreUnder plan class d curve new

-- a whole number of the first times, and of the second
pub record IsMultiple (a b t : ℕ) : Type 0 where
  pub times : ℕ
  pub whole : t ≡ a * times
  pub lasts : 0 < t
  pub small : t < 2 ^ 127
  pub divides : t % b ≡ 0

-- a time of whole cycles, and of whole periods of each talker
pub record IsCommonTime (talkers : List Talker) (cycle t : ℕ) : Type 0 where
  pub cycles : ℕ
  pub whole : t ≡ cycle * cycles
  pub lasts : 0 < t
  pub small : t < 2 ^ 127
  pub divides : (i : ℕ) → i < length talkers → t % (talker_at talkers i).period ≡ 0

-- After a time of whole cycles and of whole periods of each talker as many frames more have come as periods have passed.
pub record IsCommon (talkers : List Talker) (cycle : ℕ) (r : Repeat) : Type 0 where
  pub cycles : ℕ
  pub whole : r.time ≡ cycle * cycles
  pub lasts : 0 < r.time
  pub small : IsSmall r
  pub divides : (i : ℕ) → i < length talkers → r.time % (talker_at talkers i).period ≡ 0
  pub frames : r.frames ≡ periods_in r.time talkers
