-- The whole claim for a network: what bounds from end to end are worth in every run of it, for ever.
--
-- A class of a port depends on others: on those of the ports before, from which its frames come, and on the higher ones that share its windows
-- (IEEE Std 802.1Q-2018, 8.6.8.1). Where there is no circle in that, they are judged one after another. Times are in picoseconds.
use Rattle.std.specs.Prelude.{◌≡◌, ◌<◌, ◌≤◌, ◌⊎◌, ℕ, ◌+◌, true, [], Some, None, slice_get}
use Rattle.abstract_port.specs.declared.Start.{Start}
use Rattle.abstract_port.specs.Traffic.{Came}
use Rattle.claims.specs.Network.{Hop, IsLong, IsNetworkRun, IsNumbered, IsWithin, Link, Network, PortRun, gap, offered_at, queued_at, started_at, zero_at}
use Rattle.claims.specs.Priority.{IsByPriority}
use Rattle.claims.specs.Promise.{IsByCurve, IsByWindows, IsPromise, StartsInTime, need_at}

-- 1. What is told of a network

module _ (net : Network) where
  -- The window of a hop begins no later than a frame of the stream's shortest may come, which the port before starts at the earliest; and ends
  -- no sooner than its longest may, which that starts at the latest.
  pub record FollowsFrom (port : ℕ) (h : Hop) (l : Link) (b : Hop) : Type 0 where
    pub same : b.stream ≡ h.stream
    pub begins : h.earliest + (net.ports l.port).since + gap (net.ports l.port).ps + net.clocks
        ≤ b.earliest + b.bound.least + need_at net l.port (net.streams h.stream).shortest + l.least + (net.ports port).since
    pub ends : b.earliest + b.bound.greatest + need_at net l.port (net.streams h.stream).longest + l.greatest + net.clocks
        + (net.ports port).since ≤ h.latest + (net.ports l.port).since + gap (net.ports l.port).ps

  -- In each class that is judged a hop follows from the one before, of a class that is judged earlier; and one of a talker begins with the
  -- nominal moment.
  pub record IsTold : Type 0 where
    pub talkers : (p class i : ℕ) (h : Hop) → net.judged p class ≡ true → slice_get (net.hops p class) i ≡ Some h → h.before ≡ None
        → h.earliest ≡ (net.ports p).since
    pub links : (p class i : ℕ) (h : Hop) (l : Link) → net.judged p class ≡ true → slice_get (net.hops p class) i ≡ Some h
        → h.before ≡ Some l
        → (net.judged l.port l.class ≡ true) × (net.order l.port l.class < net.order p class)
        × (b : Hop) × (slice_get (net.hops l.port l.class) l.place ≡ Some b) × FollowsFrom p h l b

-- 2. In a run

module _ (net : Network) (runs : ℕ → PortRun) (nominal : (stream n : ℕ) → ℕ) (port class : ℕ) where
  -- A frame has left the wire, with its gap, when its bounds say, and so it is within so much of its nominal moment, by the port's clock.
  pub record EndsInTime (k n : ℕ) (h : Hop) : Type 0 where
    pub no_sooner : (x : Start) (least : ℕ) → slice_get (started_at net port class (runs port)) k ≡ Some x
        → least + (net.ports port).since ≤ h.earliest + h.bound.least + need_at net port (net.streams h.stream).shortest
        → zero_at net runs port + nominal h.stream n + least ≤ x.«end»
    pub no_later : (x : Start) (greatest : ℕ) → slice_get (started_at net port class (runs port)) k ≡ Some x
        → h.earliest + h.bound.greatest + need_at net port (net.streams h.stream).longest ≤ greatest + (net.ports port).since
        → x.«end» ≤ zero_at net runs port + nominal h.stream n + greatest

  -- What is known of each frame of a class that is judged: it comes in the window of its hop, it is not dropped, and it starts and ends in time.
  pub record KeepsTime : Type 0 where
    pub all : queued_at net port class (runs port) ≡ offered_at net port class (runs port)
    pub long : (k i n : ℕ) (f : Came) (h : Hop) → IsNumbered net port class (runs port) k i n f h → IsLong (net.streams h.stream) f
    pub comes : (k i n : ℕ) (f : Came) (h : Hop) → IsNumbered net port class (runs port) k i n f h
        → IsWithin (runs port).command.change (nominal h.stream n) h f
    pub starts : (k i n : ℕ) (f : Came) (h : Hop) → IsNumbered net port class (runs port) k i n f h
        → StartsInTime net port class (runs port) nominal k n h
    pub ends : (k i n : ℕ) (f : Came) (h : Hop) → IsNumbered net port class (runs port) k i n f h → EndsInTime k n h

-- The law of networks: where each class that is judged has a promise, all of them keep time in every run.
abbrev pub NetworkLaw : Type 0
NetworkLaw =
    (net : Network) → IsTold net → ((p class : ℕ) → net.judged p class ≡ true → IsPromise net p class)
    → (runs : ℕ → PortRun) (nominal : (stream n : ℕ) → ℕ) → IsNetworkRun net runs nominal
    → (p class : ℕ) → net.judged p class ≡ true → KeepsTime net runs nominal p class

-- Nothing comes to a class, or it is judged by windows, by an arrival curve, or by priority.
abbrev pub IsJudged : Network → (port class : ℕ) → Type 0
IsJudged net p class =
    (net.hops p class ≡ []) ⊎ (IsByWindows net p class ⊎ (IsByCurve net p class ⊎ IsByPriority net p class))

-- The claim: so it is where each is judged in one of these ways.
abbrev pub NetworkClaim : Type 0
NetworkClaim =
    (net : Network) → IsTold net → ((p class : ℕ) → net.judged p class ≡ true → IsJudged net p class)
    → (runs : ℕ → PortRun) (nominal : (stream n : ℕ) → ℕ) → IsNetworkRun net runs nominal
    → (p class : ℕ) → net.judged p class ≡ true → KeepsTime net runs nominal p class
