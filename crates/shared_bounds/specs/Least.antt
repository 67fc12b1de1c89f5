-- The least bounds of a class that shares its windows.
use Rattle.std.specs.Prelude.{◌≡◌, ◌<◌, ◌≤◌, ◌⊎◌, ◌+◌, ℕ, List, All, length}
use Rattle.gates.specs.Gate.{Plan, in_ps}
use Rattle.gates.specs.History.{Accepted}
use Rattle.abstract_port.specs.declared.Event.{Event}
use Rattle.any_traffic.specs.SharedBounds.{AreSharedBounds, IsSharedBusyPeriod}
use Rattle.any_traffic.specs.SharedRuns.{IsSharedInTime, IsSharedRun}
use Rattle.any_traffic.specs.SharedSlots.{IsBlocking}
use Rattle.shared_bounds.specs.Blocking.{blocking}
use Rattle.shared_bounds.specs.Sharing.{AreHigher, IsPitch}
use Rattle.shared_bounds.specs.Traffic.{IsTraffic, arrivals_of, needs, start_curves}
use Rattle.shared_bounds.specs.Unbound.{IsBlockedIn, IsLongIn, IsStuckIn}
use Rattle.shared_bounds.specs.declared.ClassTraffic.{ClassTraffic}
use Rattle.shared_bounds.specs.declared.Unbound.{Unbound}
use Rattle.shared_bounds.specs.declared.Unbound.TheVariants.{Blocked, Long, Memory, Stuck}

module _ (plan : Plan) (class : ℕ) (need blocking : ℕ → ℕ) (pitch : ℕ) (curve : ℕ → ℕ) (curves : ℕ → ℕ → ℕ → ℕ) (higher : List ℕ) where
  -- Bounds that hold in the busy period from each moment on, by slots of a pitch: so they hold in every run (`SharedBusyLaw`).
  abbrev pub AreBusyBounds : (wait most : ℕ) → Type 0
  AreBusyBounds wait most = (t : ℕ) → IsSharedBusyPeriod plan class need blocking pitch curve curves higher wait most t

  -- No others by that pitch have a shorter wait or fewer frames that wait at once: neither bounds of busy periods nor such as hold at all
  -- moments of all times.
  pub record AreNoMore (wait most : ℕ) : Type 0 where
    pub busy : (w m : ℕ) → AreBusyBounds w m → (wait ≤ w) × (most ≤ m)
    pub always : (w m : ℕ) → AreSharedBounds plan class need blocking pitch curve curves higher w m → (wait ≤ w) × (most ≤ m)

module _ (plan : Plan) (class : ℕ) (traffic : List ClassTraffic) (higher : List ℕ) where
  -- by what is known of the classes, with the least blocking
  abbrev pub HoldBy : (pitch wait most : ℕ) → Type 0
  HoldBy pitch = AreBusyBounds plan class (needs traffic) (blocking plan class (needs traffic)) pitch (arrivals_of traffic class)
      (start_curves traffic) higher

  abbrev pub AreNoMoreBy : (pitch wait most : ℕ) → Type 0
  AreNoMoreBy pitch = AreNoMore plan class (needs traffic) (blocking plan class (needs traffic)) pitch (arrivals_of traffic class)
      (start_curves traffic) higher

  -- from some moment on the busy period has more than so many slots of a pitch
  abbrev pub IsLongBy : (pitch limit : ℕ) → Type 0
  IsLongBy pitch limit = IsLongIn plan class (needs traffic) pitch (arrivals_of traffic class) (start_curves traffic) higher limit

module _ (plan : Plan) (class : ℕ) (traffic : List ClassTraffic) where
  -- The least bounds, by what is known of the classes, with the higher ones that share: each is one by some pitch that is tried, and by none
  -- that is tried is there a less one, as far as busy periods have no more than so many slots of it.
  pub record AreLeastOf (limit wait most : ℕ) : Type 0 where
    pub higher : List ℕ
    pub share : AreHigher plan class higher
    pub wait_is : (pitch m : ℕ) × IsPitch (needs traffic) class higher pitch × HoldBy plan class traffic higher pitch wait m
    pub most_is : (pitch w : ℕ) × IsPitch (needs traffic) class higher pitch × HoldBy plan class traffic higher pitch w most
    pub least : (pitch : ℕ) → IsPitch (needs traffic) class higher pitch
        → IsLongBy plan class traffic higher pitch limit ⊎ AreNoMoreBy plan class traffic higher pitch wait most

  -- no window takes the longest frame behind one of another class, but some takes it
  pub record IsBlockedOf : Type 0 where
    pub taken : IsStuckIn plan class (needs traffic) → ⊥
    pub blocked : IsBlockedIn plan class (needs traffic)

  -- from some moment on the busy period has more than so many slots, of each pitch that is tried
  pub record IsLongOf (limit : ℕ) : Type 0 where
    pub higher : List ℕ
    pub share : AreHigher plan class higher
    pub long : (pitch : ℕ) → IsPitch (needs traffic) class higher pitch → IsLongBy plan class traffic higher pitch limit

  -- why it has no bounds, where so many slots of a busy period may be looked at
  abbrev pub IsUnbound : (limit : ℕ) → Unbound → Type 0
  IsUnbound limit Stuck = IsStuckIn plan class (needs traffic)
  IsUnbound limit Blocked = IsBlockedOf
  IsUnbound limit Long = IsLongOf limit
  IsUnbound limit Memory = Unit {0}

-- The law of the least blocking: where each class that is known is one of the eight, it is a blocking of the plan, no other is less
-- anywhere, what has the wire at one moment has it no longer than from a later one on, and it repeats with the cycle behind the change
-- moment.
pub record IsLeastBlocking (plan : Plan) (class : ℕ) (need : ℕ → ℕ) : Type 0 where
  pub is : IsBlocking plan class need (blocking plan class need)
  pub least : (other : ℕ → ℕ) → IsBlocking plan class need other → (u : ℕ) → blocking plan class need u ≤ other u
  pub gradual : (u v : ℕ) → u ≤ v → u + blocking plan class need u ≤ v + blocking plan class need v
  pub again : (u : ℕ) → 0 < u → blocking plan class need (u + in_ps plan.cycle) ≡ blocking plan class need u

abbrev pub BlockingLaw : Type 0
BlockingLaw = (plan : Plan) (class : ℕ) (need : ℕ → ℕ) → 0 < plan.cycle → ((j : ℕ) → 8 ≤ j → need j ≡ 0) → IsLeastBlocking plan class need

-- The law: in every run in which the frames of each class are as it is known of them the least bounds hold.
abbrev pub LeastLaw : Type 0
LeastLaw =
    (ps mtu room class limit wait most : ℕ) (traffic : List ClassTraffic) (a : Accepted) (plan : Plan) (events : List Event)
    → length traffic ≡ 8 → All IsTraffic traffic → (least : AreLeastOf plan class traffic limit wait most)
    → IsSharedRun ps mtu room events class (needs traffic) (arrivals_of traffic class) (start_curves traffic) least.higher a plan
    → IsSharedInTime ps mtu room events class wait most
