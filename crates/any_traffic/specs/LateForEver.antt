-- The late run of periodic flows, once it comes to where it was: finitely many of their frames are enough for ever.
--
-- From when all flows have begun, and the jitter of each has passed, their windows repeat after any time that is whole periods of each.
-- Where the gates repeat after it, too, and the wire is then taken for as long as it was, so does the late run.
use Rattle.std.specs.Prelude.{◌≡◌, ◌<◌, ◌≤◌, ℕ, ◌+◌, ◌*◌, max, Bool, List, Some, length, slice_get}
use Rattle.gates.specs.Gate.{Plan}
use Rattle.gates.specs.History.{Accepted}
use Rattle.abstract_port.specs.declared.Start.{Start}
use Rattle.abstract_port.specs.declared.Event.{Event}
use Rattle.abstract_port.specs.Served.{IsFirst}
use Rattle.abstract_port.specs.Traffic.{Came}
use Rattle.delay_bounds.specs.ForEver.{Repeats}
use Rattle.delay_bounds.specs.Walk.{may_by}
use Rattle.any_traffic.specs.PeriodicWindows.{ArePeriodic, ComeByFlows, IsFreeFrom, IsLateStart, PeriodicFlow, window_of}
use Rattle.any_traffic.specs.Runs.{IsApartRun, end_of_run, queued, started}

-- each flow has begun by a moment, and its jitter has passed; and a time is whole periods of each
abbrev pub AreWhole : List PeriodicFlow → (from every : ℕ) → Type 0
AreWhole flows from every =
    (i : ℕ) (flow : PeriodicFlow) → slice_get flows i ≡ Some flow
    → (flow.offset + flow.jitter ≤ from) × ((n : ℕ) × (every ≡ flow.period * n))

module _ (may : ℕ → ℕ → Bool) (d : ℕ) (flows : List PeriodicFlow) where
  -- `every` after a moment the late run is as it was then, so much later
  pub record LateRecurs (from every : ℕ) : Type 0 where
    pub above : 0 < every
    pub gates : Repeats may every
    pub whole : AreWhole flows from every
    pub old : ℕ
    pub new : ℕ
    pub was : IsFreeFrom may d flows from old
    pub is : IsFreeFrom may d flows (from + every) new
    pub alike : max (from + every) new ≡ max from old + every

-- Each frame of the flows whose latest moment is before a moment starts by the late run within a time of its earliest, its flow's of
-- `waits`; `Late t s` says that the last of the frames that may have come by t starts at s.
abbrev pub AreLateWithin : (Late : ℕ → ℕ → Type 0) (flows : List PeriodicFlow) (waits : List ℕ) (upto : ℕ) → Type 0
AreLateWithin Late flows waits upto =
    (i n wait : ℕ) (flow : PeriodicFlow) → slice_get flows i ≡ Some flow → slice_get waits i ≡ Some wait
    → (window_of flow n).latest < upto
    → (s : ℕ) × Late (window_of flow n).latest s × (s ≤ (window_of flow n).earliest + wait)

-- The law: from then on each late start comes again, so much later.
abbrev pub LateForEverLaw : Type 0
LateForEverLaw =
    (may : ℕ → ℕ → Bool) (d : ℕ) (flows : List PeriodicFlow) (from every : ℕ) → ArePeriodic d flows → LateRecurs may d flows from every
    → (t s : ℕ) → from ≤ t → IsLateStart may d flows t s → IsLateStart may d flows (t + every) (s + every)

-- So what holds of the frames up to then holds of all.
abbrev pub LateEnoughLaw : Type 0
LateEnoughLaw =
    (may : ℕ → ℕ → Bool) (d : ℕ) (flows : List PeriodicFlow) (from every : ℕ) (waits : List ℕ)
    → ArePeriodic d flows → LateRecurs may d flows from every → AreLateWithin (IsLateStart may d flows) flows waits (from + every)
    → (upto : ℕ) → AreLateWithin (IsLateStart may d flows) flows waits upto

-- What is known of the frame at place k among those taken, which is frame n of a flow: by its earliest moment, in picoseconds since the
-- change moment. It starts no sooner than the class may have the wire for the flow's shortest frame; it starts within a time, and has ended
-- once its longest has passed too.
pub record IsStreamFrame (ps mtu room class : ℕ) (events : List Event) (plan : Plan) (change k : ℕ)
    (flow : PeriodicFlow) (n wait : ℕ) : Type 0 where
  pub least : (x : Start) (s : ℕ) → slice_get (started ps mtu room class events) k ≡ Some x
      → IsFirst (may_by plan class) flow.shortest (window_of flow n).earliest s → change + s ≤ x.at
  pub soon : (x : Start) → slice_get (started ps mtu room class events) k ≡ Some x → x.at ≤ change + (window_of flow n).earliest + wait
  pub ends : (x : Start) → slice_get (started ps mtu room class events) k ≡ Some x
      → x.«end» ≤ change + (window_of flow n).earliest + wait + flow.longest
  pub starts : change + (window_of flow n).earliest + wait < end_of_run ps mtu room events → k < length (started ps mtu room class events)

-- The law of streams with windows: in every run in which the class is kept apart, and each frame that its queue takes came in its window of
-- a flow, each frame keeps the bounds of its own flow that the late run has for finitely many frames.
abbrev pub PeriodicBoundsLaw : Type 0
PeriodicBoundsLaw =
    (ps mtu room class d : ℕ) (a : Accepted) (plan : Plan) (events : List Event) (flows : List PeriodicFlow)
    (numbers : List (ℕ × ℕ)) (waits : List ℕ) (from every : ℕ)
    → IsApartRun ps mtu room class events a plan → ArePeriodic d flows
    → ComeByFlows ps a.change flows numbers (queued ps mtu room class events)
    → LateRecurs (may_by plan class) d flows from every → AreLateWithin (IsLateStart (may_by plan class) d flows) flows waits (from + every)
    → (k i n wait : ℕ) (f : Came) (flow : PeriodicFlow)
    → slice_get (queued ps mtu room class events) k ≡ Some f → slice_get numbers k ≡ Some (i, n) → slice_get flows i ≡ Some flow
    → slice_get waits i ≡ Some wait
    → IsStreamFrame ps mtu room class events plan a.change k flow n wait
