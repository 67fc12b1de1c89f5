-- Periodic flows with jitter in a class that shares its gate windows with lower classes alone: its frames may wait for one of those, too.
--
-- In the late run a frame starts at the later one of two slots: the first from when it comes, and the one behind the start before it. The
-- latter alone isn't enough: in a run that start may have been sooner, and a lower frame may block the class anew (IEEE Std 802.1Q-2018,
-- 8.6.8.1).
use Rattle.std.specs.Prelude.{◌≡◌, ◌<◌, ◌≤◌, ℕ, zero, suc, ◌+◌, ◌-◌, max, Bool, List, [], Option, Some, None, slice_get}
use Rattle.gates.specs.Gate.{Plan}
use Rattle.gates.specs.History.{Accepted}
use Rattle.abstract_port.specs.declared.Start.{Start}
use Rattle.abstract_port.specs.declared.Event.{Event}
use Rattle.abstract_port.specs.AbstractPort.{new_port}
use Rattle.abstract_port.specs.Answers.{answers_of}
use Rattle.abstract_port.specs.Laws.{starts_in}
use Rattle.abstract_port.specs.Traffic.{Came}
use Rattle.delay_bounds.specs.ForEver.{Repeats}
use Rattle.delay_bounds.specs.Walk.{may_by}
use Rattle.any_traffic.specs.ArrivalWindows.{StartsWithin}
use Rattle.any_traffic.specs.LateForEver.{AreLateWithin, AreWhole, IsStreamFrame}
use Rattle.any_traffic.specs.PeriodicWindows.{ArePeriodic, ComeByFlows, PeriodicFlow, can_by, must_before, window_of}
use Rattle.any_traffic.specs.Runs.{IsScheduledRun, queued}
use Rattle.any_traffic.specs.SharedSlots.{IsFirstShared, IsNextShared, IsSharing}

-- the blocking falls by no more than time goes on
abbrev pub IsGradual : (ℕ → ℕ) → Type 0
IsGradual blocking = (u : ℕ) → blocking u ≤ blocking (u + 1) + 1

module _ (may : ℕ → ℕ → Bool) (own pitch : ℕ) (blocking : ℕ → ℕ) where
  -- a frame that comes at t starts at s, behind the last start, if there is one
  abbrev pub IsBlockedStart : Option ℕ → (t s : ℕ) → Type 0
  IsBlockedStart None t s = IsFirstShared may own pitch blocking t s
  IsBlockedStart (Some r) t s =
      (x y : ℕ) × IsFirstShared may own pitch blocking t x × IsNextShared may own pitch blocking r y × (s ≡ max x y)

  -- n frames come at t, and start one behind another
  abbrev pub AreBlocked : (t n : ℕ) → (last later : Option ℕ) → Type 0
  AreBlocked t zero last later = later ≡ last
  AreBlocked t (suc n) last later = (s : ℕ) × IsBlockedStart last t s × AreBlocked t n (Some s) later

  -- the last start of the frames that come before t in the late run
  abbrev pub IsLastBefore : List PeriodicFlow → (t : ℕ) → Option ℕ → Type 0
  IsLastBefore flows zero last = last ≡ None
  IsLastBefore flows (suc t) last =
      (was : Option ℕ) × IsLastBefore flows t was × AreBlocked t (must_before flows (suc t) - must_before flows t) was last

  -- of the frames that may have come by t the last starts at s, where those that needn't have come before it do so at t
  abbrev pub IsBlockedLate : List PeriodicFlow → (t s : ℕ) → Type 0
  IsBlockedLate flows t s =
      (last : Option ℕ) × IsLastBefore flows t last × AreBlocked t (can_by flows t - must_before flows t) last (Some s)

  -- `every` after a moment the late run is as it was then, so much later: the last start, and all that is to come
  pub record BlockedRecurs (flows : List PeriodicFlow) (from every : ℕ) : Type 0 where
    pub begun : 0 < from
    pub above : 0 < every
    pub gates : Repeats may every
    pub blocked : (u : ℕ) → 0 < u → blocking (u + every) ≡ blocking u
    pub whole : AreWhole flows from every
    pub last : ℕ
    pub was : IsLastBefore flows from (Some last)
    pub is : IsLastBefore flows (from + every) (Some (last + every))

-- The law of blocked windows: in every run in which no higher class shares windows with the class, and each frame that its queue takes came
-- in its window of a flow, each frame starts no later than the late start at its latest moment. Of the frames of lower classes no more is
-- asked than that one that starts needs the wire for `need` of its class at most.
abbrev pub BlockedWindowLaw : Type 0
BlockedWindowLaw =
    (ps mtu room class pitch : ℕ) (need blocking : ℕ → ℕ) (a : Accepted) (plan : Plan) (events : List Event) (flows : List PeriodicFlow)
    (numbers : List (ℕ × ℕ))
    → IsSharing plan class [] need blocking → need class ≤ pitch → IsGradual blocking → IsScheduledRun ps mtu room class events a plan
    → ((k : ℕ) (x : Start) → slice_get (starts_in (answers_of events (new_port ps mtu room))) k ≡ Some x → x.«end» ≤ x.at + need x.class)
    → ArePeriodic (need class) flows → ComeByFlows ps a.change flows numbers (queued ps mtu room class events)
    → (k i n s : ℕ) (f : Came) (flow : PeriodicFlow)
    → slice_get (queued ps mtu room class events) k ≡ Some f → slice_get numbers k ≡ Some (i, n) → slice_get flows i ≡ Some flow
    → IsBlockedLate (may_by plan class) (need class) pitch blocking flows (window_of flow n).latest s
    → StartsWithin ps mtu room class events a.change k s

-- The law: from then on each late start comes again, so much later.
abbrev pub BlockedForEverLaw : Type 0
BlockedForEverLaw =
    (may : ℕ → ℕ → Bool) (own pitch : ℕ) (blocking : ℕ → ℕ) (flows : List PeriodicFlow) (from every : ℕ)
    → ArePeriodic own flows → BlockedRecurs may own pitch blocking flows from every
    → (t s : ℕ) → from ≤ t → IsBlockedLate may own pitch blocking flows t s
    → IsBlockedLate may own pitch blocking flows (t + every) (s + every)

-- The law of streams with windows: in every such run each frame keeps the bounds of its own flow that the late run has for finitely many
-- frames.
abbrev pub BlockedBoundsLaw : Type 0
BlockedBoundsLaw =
    (ps mtu room class pitch : ℕ) (need blocking : ℕ → ℕ) (a : Accepted) (plan : Plan) (events : List Event) (flows : List PeriodicFlow)
    (numbers : List (ℕ × ℕ)) (waits : List ℕ) (from every : ℕ)
    → IsSharing plan class [] need blocking → need class ≤ pitch → IsGradual blocking → IsScheduledRun ps mtu room class events a plan
    → ((k : ℕ) (x : Start) → slice_get (starts_in (answers_of events (new_port ps mtu room))) k ≡ Some x → x.«end» ≤ x.at + need x.class)
    → ArePeriodic (need class) flows → ComeByFlows ps a.change flows numbers (queued ps mtu room class events)
    → BlockedRecurs (may_by plan class) (need class) pitch blocking flows from every
    → AreLateWithin (IsBlockedLate (may_by plan class) (need class) pitch blocking flows) flows waits (from + every)
    → (k i n wait : ℕ) (f : Came) (flow : PeriodicFlow)
    → slice_get (queued ps mtu room class events) k ≡ Some f → slice_get numbers k ≡ Some (i, n) → slice_get flows i ≡ Some flow
    → slice_get waits i ≡ Some wait → IsStreamFrame ps mtu room class events plan a.change k flow n wait
