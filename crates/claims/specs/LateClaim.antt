-- The whole claim for frames that come late, or at any moments: what the bounds of a class that a schedule keeps apart are worth in every run
-- of a port, for ever.
--
-- A run is any list of events on a new port: frames of all classes, clocks, commands and questions (IEEE Std 802.1Q-2018, 8.6.8.4 and
-- 8.6.9). One schedule is accepted, and no other command; it keeps the class apart, and is in force when the first frame of the class comes
-- (`IsApartRun`). Of the other classes nothing is asked. Times are in picoseconds, and moments of flows count from the change moment.
use Rattle.std.specs.Prelude.{◌≡◌, ◌<◌, ◌≤◌, ℕ, ◌+◌, List, map, slice_get, Some}
use Rattle.gates.specs.Gate.{Plan}
use Rattle.gates.specs.History.{Accepted}
use Rattle.abstract_port.specs.AbstractPort.{plan_asked}
use Rattle.abstract_port.specs.declared.Change.{Change}
use Rattle.abstract_port.specs.declared.Event.{Event}
use Rattle.abstract_port.specs.declared.Start.{Start}
use Rattle.abstract_port.specs.Traffic.{Came}
use Rattle.delay_bounds.specs.Walk.{may_by}
use Rattle.delay_bounds.specs.declared.Bound.{Bound}
use Rattle.any_traffic.specs.ArrivalCurve.{ConformTo}
use Rattle.any_traffic.specs.ExactWindows.{at_earliest}
use Rattle.any_traffic.specs.LateForEver.{IsStreamFrame}
use Rattle.any_traffic.specs.PeriodicWindows.{ArePeriodic, ComeByFlows, PeriodicFlow, window_of}
use Rattle.any_traffic.specs.Runs.{IsApartRun, IsInTime, left, offered, queued, started}
use Rattle.any_traffic.specs.Sporadic.{curve_of_all}
use Rattle.any_traffic.specs.WindowCurve.{without_offset}
use Rattle.burst_bounds.specs.Least.{AreLeast as IsLeastBurst}
use Rattle.window_bounds.specs.Least.{AreLeast as AreLeastWindows}
use Rattle.claims.specs.Runs.{CanCome}

-- 1. Windows: the frames of a flow are known by number, and each comes in its window

-- Each frame that the queue of the class is offered is one of a flow, comes in its window, and has a length between the flow's shortest and
-- its longest. They may come in any order, and any of them may be missing.
pub record IsWindowRun (ps mtu room class : ℕ) (plan : Plan) (flows : List PeriodicFlow) (events : List Event) : Type 0 where
  pub command : Accepted
  pub apart : IsApartRun ps mtu room class events command plan
  pub numbers : List (ℕ × ℕ)
  pub come : ComeByFlows ps command.change flows numbers (offered ps mtu room class events)

-- No frame is dropped, and no more than `most` wait at any time. Each frame starts within its flow's bounds, which count from its earliest
-- moment; it has started once the greatest has passed, and ended when its flow's longest frame would have.
pub record KeepWindowBounds (ps mtu room class : ℕ) (plan : Plan) (flows : List PeriodicFlow) (bounds : List Bound) (most : ℕ)
    (events : List Event) (r : IsWindowRun ps mtu room class plan flows events) : Type 0 where
  pub all : queued ps mtu room class events ≡ offered ps mtu room class events
  pub few : left ps mtu room class events ≤ most
  pub each : (k i n : ℕ) (f : Came) (flow : PeriodicFlow) (b : Bound) → slice_get (offered ps mtu room class events) k ≡ Some f
      → slice_get r.numbers k ≡ Some (i, n) → slice_get flows i ≡ Some flow → slice_get bounds i ≡ Some b
      → IsStreamFrame ps mtu room class events plan (r.command).change k flow n b.greatest
  pub least : (k i n : ℕ) (f : Came) (flow : PeriodicFlow) (b : Bound) (x : Start) → slice_get (offered ps mtu room class events) k ≡ Some f
      → slice_get r.numbers k ≡ Some (i, n) → slice_get flows i ≡ Some flow → slice_get bounds i ≡ Some b
      → slice_get (started ps mtu room class events) k ≡ Some x → (r.command).change + (window_of flow n).earliest + b.least ≤ x.at

-- The claim: with the least bounds of a plan, where there is room for as many frames as ever wait by them.
abbrev pub WindowClaim : Type 0
WindowClaim =
    (plan : Plan) (class d most : ℕ) (flows : List PeriodicFlow) (bounds : List Bound) → ArePeriodic d flows
    → AreLeastWindows (may_by plan class) d flows bounds most
    → (ps mtu room : ℕ) (events : List Event) → most ≤ room → (r : IsWindowRun ps mtu room class plan flows events)
    → KeepWindowBounds ps mtu room class plan flows bounds most events r

-- 2. Any moments: nothing is known but how many frames come within a time

-- The frames that the queue of the class is offered conform to an arrival curve, and each needs the wire for d at most.
pub record IsCurveRun (ps mtu room class : ℕ) (plan : Plan) (d : ℕ) (curve : ℕ → ℕ) (events : List Event) : Type 0 where
  pub command : Accepted
  pub apart : IsApartRun ps mtu room class events command plan
  pub conform : ConformTo ps d curve (offered ps mtu room class events)

-- The claim: with the least bounds of a plan, each frame starts within `wait` of when it came, no more than `most` wait at any time, and where
-- there is room for these none is dropped.
abbrev pub CurveClaim : Type 0
CurveClaim =
    (plan : Plan) (class d wait most : ℕ) (curve : ℕ → ℕ) → IsLeastBurst plan class d curve wait most
    → (ps mtu room : ℕ) (events : List Event) → IsCurveRun ps mtu room class plan d curve events → IsInTime ps mtu room class events wait most

-- 3. There are such runs

-- A flow has a period, and a shortest frame that is no longer than its longest.
abbrev pub AreFlows : List PeriodicFlow → Type 0
AreFlows flows = (i : ℕ) (flow : PeriodicFlow) → slice_get flows i ≡ Some flow → (0 < flow.period) × (flow.shortest ≤ flow.longest)

-- The law: where so many longest frames of flows can come at their earliest (`CanCome`: no more is asked there than the standard, a port's
-- limits or this claim ask), they come in a run of which both claims speak.
abbrev pub LateRunsExist : Type 0
LateRunsExist =
    (ps mtu room class n d : ℕ) (change : Change) (flows : List PeriodicFlow) → class < 8 → AreFlows flows → ArePeriodic d flows
    → CanCome ps mtu room class change (map at_earliest flows) n
    → (events : List Event) × IsWindowRun ps mtu room class (plan_asked change) flows events
    × IsCurveRun ps mtu room class (plan_asked change) d (curve_of_all (map without_offset flows)) events
