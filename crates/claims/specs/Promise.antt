-- What is promised of a class of a port in a network, and the ways to judge a class.
--
-- A promise speaks of one port alone, and is made by its plan: where the frames of the class come in their windows, each starts within its
-- bounds (IEEE Std 802.1Q-2018, 8.6.8.4 and 8.6.9). Times are in picoseconds.
use Rattle.std.specs.Prelude.{◌≡◌, ◌<◌, ◌≤◌, ℕ, ◌+◌, ◌-◌, ◌*◌, true, [], map, length, Some, is_some, slice_get, unwrap_or}
use Rattle.wire_time.specs.Wire.{occupancy_of}
use Rattle.gates.specs.Gate.{in_ps, keeps_apart}
use Rattle.abstract_port.specs.declared.Start.{Start}
use Rattle.abstract_port.specs.Traffic.{Came}
use Rattle.delay_bounds.specs.Walk.{may_by}
use Rattle.any_traffic.specs.PeriodicWindows.{ArePeriodic, PeriodicFlow}
use Rattle.any_traffic.specs.Runs.{end_of_run}
use Rattle.any_traffic.specs.Sporadic.{AreFlows, Sporadic, curve_of_all}
use Rattle.burst_bounds.specs.Least.{AreLeast as IsLeastBurst}
use Rattle.window_bounds.specs.Least.{AreLeast as AreLeastWindows}
use Rattle.claims.specs.OtherClasses.{TakesUpTo}
use Rattle.claims.specs.Network.{AreNominal, Hop, IsClassRun, IsLong, IsNumbered, IsWithin, Network, PortRun, offered_at, queued_at, started_at}

-- 1. A promise

-- the frames of a class have as many octets as those of their streams
abbrev pub AreLong : Network → (port class : ℕ) → PortRun → Type 0
AreLong net port class r = (k i n : ℕ) (f : Came) (h : Hop) → IsNumbered net port class r k i n f h → IsLong (net.streams h.stream) f

-- they come in their windows
abbrev pub AreWithin : Network → (port class : ℕ) → PortRun → (nominal : ℕ → ℕ → ℕ) → Type 0
AreWithin net port class r nominal =
    (k i n : ℕ) (f : Came) (h : Hop) → IsNumbered net port class r k i n f h → IsWithin r.command.change (nominal h.stream n) h f

module _ (net : Network) (port class : ℕ) (r : PortRun) (nominal : (stream n : ℕ) → ℕ) where
  -- Of all classes of the port that are judged the frames have the octets of their streams. Those of the class come in their windows, and so
  -- do those of the classes that are judged before it.
  pub record IsAsked : Type 0 where
    pub moments : (s : ℕ) → AreNominal (net.streams s) (nominal s)
    pub runs : (j : ℕ) → net.judged port j ≡ true → IsClassRun net port j r
    pub others : (j limit : ℕ) → net.limit port j ≡ Some limit
        → TakesUpTo (net.ports port).ps (net.ports port).mtu (net.ports port).room r.events j limit
    pub long : (j : ℕ) → net.judged port j ≡ true → AreLong net port j r
    pub come : AreWithin net port class r nominal
    pub before : (j : ℕ) → net.judged port j ≡ true → net.order port j < net.order port class → AreWithin net port j r nominal

  -- the frame at place k starts within bounds that count from the beginning of its window; once these have passed it has started
  pub record StartsInTime (k n : ℕ) (h : Hop) : Type 0 where
    pub no_sooner : (x : Start) → slice_get (started_at net port class r) k ≡ Some x
        → r.command.change + nominal h.stream n + h.earliest + h.bound.least ≤ x.at
    pub no_later : (x : Start) → slice_get (started_at net port class r) k ≡ Some x
        → x.at ≤ r.command.change + nominal h.stream n + h.earliest + h.bound.greatest
    pub done : r.command.change + nominal h.stream n + h.earliest + h.bound.greatest
        < end_of_run (net.ports port).ps (net.ports port).mtu (net.ports port).room r.events
        → k < length (started_at net port class r)

  -- no frame of the class is dropped, and each starts in time
  pub record AreInTime : Type 0 where
    pub all : queued_at net port class r ≡ offered_at net port class r
    pub each : (k i n : ℕ) (f : Came) (h : Hop) → IsNumbered net port class r k i n f h → StartsInTime k n h

-- in every run of the port in which the frames come as is asked they start in time
abbrev pub IsPromise : Network → (port class : ℕ) → Type 0
IsPromise net port class =
    (r : PortRun) (nominal : (stream n : ℕ) → ℕ) → IsAsked net port class r nominal → AreInTime net port class r nominal

-- 2. The ways to judge a class

module _ (net : Network) (port : ℕ) where
  -- for how long a frame of so many octets needs the port's wire
  abbrev pub need_at : (len : ℕ) → ℕ
  need_at len = occupancy_of (net.ports port).ps len

  -- a stream in a class, as a flow with windows, which count from so many whole cycles after the change moment
  abbrev pub flow_at : (cycles : ℕ) → Hop → PeriodicFlow
  flow_at cycles h = record {
    offset = unwrap_or (net.streams h.stream).offset 0 + h.earliest - in_ps (net.ports port).plan.cycle * cycles;
    period = (net.streams h.stream).period;
    jitter = h.latest - h.earliest;
    shortest = need_at (net.streams h.stream).shortest;
    longest = need_at (net.streams h.stream).longest;
  }

  -- and as a talker of whose frames is known how far apart they come
  abbrev pub talker_at : Hop → Sporadic
  talker_at h = record {
    need = need_at (net.streams h.stream).longest;
    period = (net.streams h.stream).period;
    jitter = (net.streams h.stream).jitter + (h.latest - h.earliest);
  }

  module _ (class : ℕ) where
    -- each stream has a known offset, and no window begins before so many cycles have passed
    abbrev pub AreFrom : (cycles : ℕ) → Type 0
    AreFrom cycles =
        (i : ℕ) (h : Hop) → slice_get (net.hops port class) i ≡ Some h
        → (is_some (net.streams h.stream).offset ≡ true)
        × (in_ps (net.ports port).plan.cycle * cycles ≤ unwrap_or (net.streams h.stream).offset 0 + h.earliest)

    -- By windows: the class is kept apart, and the bounds of its hops are the least of their flows with windows, as if the schedule came into
    -- force some cycles later. There is room for all that wait.
    pub record IsByWindows : Type 0 where
      pub apart : keeps_apart (net.ports port).plan.entries class ≡ true
      pub cycles : ℕ
      pub begin : AreFrom cycles
      pub need : ℕ
      pub most : ℕ
      pub flows : ArePeriodic need (map (flow_at cycles) (net.hops port class))
      pub least : AreLeastWindows (may_by (net.ports port).plan class) need (map (flow_at cycles) (net.hops port class))
          (map (λ h. h.bound) (net.hops port class)) most
      pub room : most ≤ (net.ports port).room

    -- the bounds of hops whose frames start within a wait of when they come
    abbrev pub AreByWait : (wait : ℕ) → Type 0
    AreByWait wait =
        (i : ℕ) (h : Hop) → slice_get (net.hops port class) i ≡ Some h
        → (h.bound.least ≡ 0) × (h.latest + wait ≤ h.earliest + h.bound.greatest)

    -- By an arrival curve: the class is kept apart, and the bounds of its hops are by the least wait of their talkers, whenever their frames
    -- come. There is room for all that wait.
    pub record IsByCurve : Type 0 where
      pub apart : keeps_apart (net.ports port).plan.entries class ≡ true
      pub need : ℕ
      pub wait : ℕ
      pub most : ℕ
      pub talkers : AreFlows need (map talker_at (net.hops port class))
      pub least : IsLeastBurst (net.ports port).plan class need (curve_of_all (map talker_at (net.hops port class))) wait most
      pub room : most ≤ (net.ports port).room
      pub bounds : AreByWait wait

-- The laws: a class to which nothing comes keeps its promise, and so does one that is judged by windows, or by a curve.
abbrev pub SilentPromise : Type 0
SilentPromise = (net : Network) (port class : ℕ) → net.judged port class ≡ true → net.hops port class ≡ [] → IsPromise net port class

abbrev pub WindowPromise : Type 0
WindowPromise = (net : Network) (port class : ℕ) → net.judged port class ≡ true → IsByWindows net port class → IsPromise net port class

abbrev pub CurvePromise : Type 0
CurvePromise = (net : Network) (port class : ℕ) → net.judged port class ≡ true → IsByCurve net port class → IsPromise net port class
