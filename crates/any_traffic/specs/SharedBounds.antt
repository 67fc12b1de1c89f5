-- Bounds of a class that shares its windows with others, by its arrival curve and the start curves of the higher ones.
--
-- What is asked of a higher class is a start curve, and what a law says of a class gives it one (`StartCurveLaw`): so classes are judged
-- from the highest down.
use Rattle.std.specs.Prelude.{◌≡◌, ◌<◌, ◌≤◌, ◌⊎◌, ℕ, ◌+◌, ◌-◌, ◌*◌, List, sum_by}
use Rattle.gates.specs.Gate.{Plan, in_ps}
use Rattle.gates.specs.History.{Accepted}
use Rattle.abstract_port.specs.declared.Event.{Event}
use Rattle.delay_bounds.specs.Walk.{may_by}
use Rattle.any_traffic.specs.SharedRuns.{IsSharedInTime, IsSharedRun}
use Rattle.any_traffic.specs.SharedSlots.{IsSharedSlot, IsSharing, slots_of}

-- how many slots the frames of the higher classes may cover that start from a moment to one that is y later
abbrev pub slots_above : (pitch : ℕ) (curves : ℕ → ℕ → ℕ → ℕ) → List ℕ → ℕ → ℕ
slots_above pitch curves higher y = sum_by (λ j. curves pitch j y) higher

module _ (plan : Plan) (class : ℕ) (need blocking : ℕ → ℕ) (pitch : ℕ) (curve : ℕ → ℕ) (curves : ℕ → ℕ → ℕ → ℕ) (higher : List ℕ) where
  -- The slot at s, counted from t on, is one for k frames of the class: no fewer slots are before it than all of these but the last may
  -- cover, and all that may start of the higher classes by then.
  pub record IsSlotFor (t k s : ℕ) : Type 0 where
    pub behind : ℕ
    pub is : IsSharedSlot (may_by plan class) (need class) pitch blocking t behind s
    pub enough : slots_of (need class) pitch * (k - 1) + slots_above pitch curves higher (s - t) ≤ behind

  -- of the frames of the class that come from t on within x, the last starts at most `wait` after x has passed
  abbrev pub IsSoon : ℕ → ℕ → ℕ → Type 0
  IsSoon wait t x = (s : ℕ) × IsSlotFor t (curve x) s × (s ≤ t + x + wait)

  -- of these all but `waiting` start before x has passed
  abbrev pub AreFew : ℕ → ℕ → ℕ → Type 0
  AreFew waiting t x = (k : ℕ) × (curve x ≤ k + waiting) × ((k ≡ 0) ⊎ ((s : ℕ) × IsSlotFor t k s × (s < t + x)))

  -- the bounds of a plan alone: they hold from any moment on, of any time
  pub record AreSharedBounds (wait waiting : ℕ) : Type 0 where
    pub soon : (t x : ℕ) → IsSoon wait t x
    pub few : (t x : ℕ) → AreFew waiting t x

  -- The busy period from t on: the frames of the class that come within `last` start so early that they have ended before a further one can
  -- come, and the bounds hold up to then.
  pub record IsSharedBusyPeriod (wait waiting t : ℕ) : Type 0 where
    pub last : ℕ
    pub slot : ℕ
    pub is : IsSlotFor t (curve last) slot
    pub ends : slot + need class ≤ t + last + 1
    pub soon : (x : ℕ) → x ≤ last → IsSoon wait t x
    pub few : (x : ℕ) → x ≤ last → AreFew waiting t x

-- The law of shared windows: in every such run the bounds hold that its plan alone has, by any pitch, with the arrival curve of the class,
-- the start curves of the higher ones, and with how long a frame of each class needs the wire at most.
abbrev pub SharedLaw : Type 0
SharedLaw =
    (ps mtu room class pitch wait waiting : ℕ) (need blocking : ℕ → ℕ) (curve : ℕ → ℕ) (curves : ℕ → ℕ → ℕ → ℕ) (higher : List ℕ)
    (a : Accepted) (plan : Plan) (events : List Event)
    → IsSharing plan class higher need blocking → 0 < pitch → IsSharedRun ps mtu room events class need curve curves higher a plan
    → AreSharedBounds plan class need blocking pitch curve curves higher wait waiting
    → IsSharedInTime ps mtu room events class wait waiting

-- The law of busy periods: it is enough that the bounds hold up to the end of the busy period from each moment, where the curve of the
-- class rises.
abbrev pub SharedBusyLaw : Type 0
SharedBusyLaw =
    (ps mtu room class pitch wait waiting : ℕ) (need blocking : ℕ → ℕ) (curve : ℕ → ℕ) (curves : ℕ → ℕ → ℕ → ℕ) (higher : List ℕ)
    (a : Accepted) (plan : Plan) (events : List Event)
    → IsSharing plan class higher need blocking → 0 < pitch → IsSharedRun ps mtu room events class need curve curves higher a plan
    → ((x y : ℕ) → x ≤ y → curve x ≤ curve y)
    → ((t : ℕ) → IsSharedBusyPeriod plan class need blocking pitch curve curves higher wait waiting t)
    → IsSharedInTime ps mtu room events class wait waiting

-- The law of one cycle: where the blocking repeats, too, but for that at the change moment, what bounds the busy period from each moment up
-- to the end of the first cycle bounds it from any.
abbrev pub SharedCycleLaw : Type 0
SharedCycleLaw =
    (plan : Plan) (class pitch wait waiting : ℕ) (need blocking : ℕ → ℕ) (curve : ℕ → ℕ) (curves : ℕ → ℕ → ℕ → ℕ) (higher : List ℕ)
    → 0 < plan.cycle → ((u : ℕ) → 0 < u → blocking (u + in_ps plan.cycle) ≡ blocking u)
    → ((t : ℕ) → t ≤ in_ps plan.cycle → IsSharedBusyPeriod plan class need blocking pitch curve curves higher wait waiting t)
    → (t : ℕ) → IsSharedBusyPeriod plan class need blocking pitch curve curves higher wait waiting t
