-- A bound of windows is reached: in the run that delays a frame the most, that frame starts exactly at its late start. And there are such runs.
--
-- A schedule keeps the class apart (IEEE Std 802.1Q-2018, 8.6.8.4 and 8.6.9), the windows of its flows are known (`PeriodicWindows`), and all
-- frames need the wire for one time, d. Times are in picoseconds, and moments of flows count from the change moment.
use Rattle.std.specs.Prelude.{◌≡◌, ◌<◌, ◌≤◌, ℕ, ◌+◌, min, List, map, length, slice_get, Some}
use Rattle.wire_time.specs.Moment.{greatest_moment}
use Rattle.wire_time.specs.Wire.{occupancy_of}
use Rattle.gates.specs.Gate.{Plan}
use Rattle.gates.specs.History.{Accepted}
use Rattle.abstract_port.specs.AbstractPort.{plan_asked}
use Rattle.abstract_port.specs.declared.Change.{Change}
use Rattle.abstract_port.specs.declared.Event.{Event}
use Rattle.abstract_port.specs.declared.Start.{Start}
use Rattle.abstract_port.specs.Traffic.{Came}
use Rattle.delay_bounds.specs.Walk.{may_by}
use Rattle.delay_bounds.specs.declared.Bound.{Bound}
use Rattle.any_traffic.specs.ExactWindows.{at_earliest}
use Rattle.any_traffic.specs.PeriodicWindows.{ArePeriodic, ComeByFlows, IsLateStart, PeriodicFlow, window_of}
use Rattle.any_traffic.specs.Runs.{IsApartRun, end_of_run, queued, started}
use Rattle.window_bounds.specs.Least.{AreLeast as AreLeastWindows, IsReached}
use Rattle.claims.specs.Runs.{CanCome, in_force_from}
use Rattle.claims.specs.LateClaim.{IsWindowRun}

-- 1. The run that delays a frame the most

-- The queue takes the frame at place k last of all that may have come by a moment: each of these comes as late as it may, or at that moment
-- if that is sooner, and stands no later than k. All frames need the wire for d.
pub record IsDelayedMost (ps change d : ℕ) (flows : List PeriodicFlow) (numbers : List (ℕ × ℕ)) (came : List Came)
    (k last : ℕ) : Type 0 where
  pub all : (i n : ℕ) (flow : PeriodicFlow) → slice_get flows i ≡ Some flow → (window_of flow n).earliest ≤ last
      → (j : ℕ) × (f : Came) × (slice_get numbers j ≡ Some (i, n)) × (slice_get came j ≡ Some f) × (j ≤ k)
      × (f.moment ≡ change + min (window_of flow n).latest last)
  pub even : (j : ℕ) (f : Came) → slice_get came j ≡ Some f → occupancy_of ps f.frame.len ≡ d

-- the frame at a place starts exactly at s, which counts from the change moment, and has once that has passed
abbrev pub StartsAt : (ps mtu room class : ℕ) (events : List Event) (change k s : ℕ) → Type 0
StartsAt ps mtu room class events change k s =
    ((x : Start) → slice_get (started ps mtu room class events) k ≡ Some x → x.at ≡ change + s)
    × (change + s < end_of_run ps mtu room events → k < length (started ps mtu room class events))

-- The law: in every run in which the class is kept apart, and each frame that its queue takes came in its window of a flow, a frame that is
-- delayed the most starts exactly at the late start at its latest moment.
abbrev pub WindowsReachedLaw : Type 0
WindowsReachedLaw =
    (ps mtu room class d : ℕ) (a : Accepted) (plan : Plan) (events : List Event) (flows : List PeriodicFlow) (numbers : List (ℕ × ℕ))
    → IsApartRun ps mtu room class events a plan → ArePeriodic d flows
    → ComeByFlows ps a.change flows numbers (queued ps mtu room class events)
    → (k i n s : ℕ) (f : Came) (flow : PeriodicFlow)
    → slice_get (queued ps mtu room class events) k ≡ Some f → slice_get numbers k ≡ Some (i, n) → slice_get flows i ≡ Some flow
    → IsDelayedMost ps a.change d flows numbers (queued ps mtu room class events) k (window_of flow n).latest
    → IsLateStart (may_by plan class) d flows (window_of flow n).latest s → StartsAt ps mtu room class events a.change k s

-- So the greatest time of a flow is reached: it has a frame that, in each run which delays this one the most, starts exactly so long after
-- its earliest moment.
abbrev pub GreatestReachedLaw : Type 0
GreatestReachedLaw =
    (plan : Plan) (class d most : ℕ) (flows : List PeriodicFlow) (bounds : List Bound) → ArePeriodic d flows
    → AreLeastWindows (may_by plan class) d flows bounds most
    → (i : ℕ) (flow : PeriodicFlow) (b : Bound) → slice_get flows i ≡ Some flow → slice_get bounds i ≡ Some b
    → (n : ℕ) × ((ps mtu room : ℕ) (a : Accepted) (events : List Event) (numbers : List (ℕ × ℕ)) (k : ℕ) (f : Came)
    → IsApartRun ps mtu room class events a plan → ComeByFlows ps a.change flows numbers (queued ps mtu room class events)
    → slice_get (queued ps mtu room class events) k ≡ Some f → slice_get numbers k ≡ Some (i, n)
    → IsDelayedMost ps a.change d flows numbers (queued ps mtu room class events) k (window_of flow n).latest
    → StartsAt ps mtu room class events a.change k ((window_of flow n).earliest + b.greatest))

-- 2. There are such runs

-- each flow has a period, and its longest frame needs the wire for d
abbrev pub AreEven : ℕ → List PeriodicFlow → Type 0
AreEven d flows =
    (i : ℕ) (flow : PeriodicFlow) → slice_get flows i ≡ Some flow
    → (0 < flow.period) × (flow.shortest ≤ flow.longest) × (flow.longest ≡ d)

-- A new port accepts the schedule, which keeps the class apart, and then takes the longest frame of each flow into the class. (That is what
-- `CanCome` asks before any frame comes.)
abbrev pub CanBegin : (ps mtu room class : ℕ) → Change → List PeriodicFlow → Type 0
CanBegin ps mtu room class change flows = CanCome ps mtu room class change (map at_earliest flows) 0

-- A run of which the claim of windows speaks, and in which frame n of the flow at place i starts exactly so long after its earliest moment. It
-- ends when its longest frame would.
pub record IsWaitInRun (ps mtu room class : ℕ) (plan : Plan) (flows : List PeriodicFlow) (i n : ℕ) (flow : PeriodicFlow)
    (wait : ℕ) : Type 0 where
  pub events : List Event
  pub run : IsWindowRun ps mtu room class plan flows events
  pub place : ℕ
  pub frame : slice_get run.numbers place ≡ Some (i, n)
  pub start : Start
  pub starts : slice_get (started ps mtu room class events) place ≡ Some start
  pub exactly : start.at ≡ (run.command).change + ((window_of flow n).earliest + wait)
  pub ends : start.«end» ≡ start.at + flow.longest

-- The law: a class has least bounds, one frame length, and room for as many frames as ever wait by them. Then each flow has a frame whose
-- late start is the flow's greatest time after its earliest moment. And there is a run in which such a frame starts exactly then, if the
-- port's clock goes on for longer.
abbrev pub GreatestRunsExist : Type 0
GreatestRunsExist =
    (ps mtu room class d most : ℕ) (change : Change) (flows : List PeriodicFlow) (bounds : List Bound) → class < 8 → AreEven d flows
    → CanBegin ps mtu room class change flows → AreLeastWindows (may_by (plan_asked change) class) d flows bounds most → most ≤ room
    → (i : ℕ) (flow : PeriodicFlow) (b : Bound) → slice_get flows i ≡ Some flow → slice_get bounds i ≡ Some b
    → IsReached (may_by (plan_asked change) class) d flows flow b.greatest
    × ((n : ℕ)
    → IsLateStart (may_by (plan_asked change) class) d flows (window_of flow n).latest ((window_of flow n).earliest + b.greatest)
    → in_force_from ps mtu room change + ((window_of flow n).earliest + b.greatest) < greatest_moment
    → IsWaitInRun ps mtu room class (plan_asked change) flows i n flow b.greatest)
