-- A network of ports, and its runs: the frames that a port sends of a stream come to the next one within the times of the link between them.
--
-- Each port has a clock and a schedule of its own (IEEE Std 802.1Q-2018, 8.6.8.4 and 8.6.9). One moment, zero, is one for all of them. A frame
-- of a stream has a nominal moment, which counts from zero and is the same at each of its ports; when it comes to a port, and when it starts
-- there, counts from the change moment of the port's schedule and the nominal moment together. Times are in picoseconds.
use Rattle.std.specs.Prelude.{◌≡◌, ◌≤◌, ℕ, ◌+◌, ◌*◌, Bool, true, List, Option, Some, None, slice_get}
use Rattle.gates.specs.Gate.{Plan}
use Rattle.gates.specs.History.{Accepted}
use Rattle.abstract_port.specs.declared.Event.{Event}
use Rattle.abstract_port.specs.declared.Start.{Start}
use Rattle.abstract_port.specs.Traffic.{Came}
use Rattle.delay_bounds.specs.declared.Bound.{Bound}
use Rattle.any_traffic.specs.Runs.{IsScheduledRun, offered, queued, started}
use Rattle.claims.specs.OtherClasses.{TakesUpTo}

-- 1. A network

-- A port: its rate, its mtu, and for how many frames a class has room; its schedule; and for how long that has been in force at moment zero.
-- By this base times that differ mean what they say.
pub record NetworkPort : Type 0 where
  pub ps : ℕ
  pub mtu : ℕ
  pub room : ℕ
  pub plan : Plan
  pub since : ℕ

-- A stream: how many octets its frames have, without check sequence; its period; and its offset, if that is known. If not, its nominal moments
-- are any, a period apart less the jitter: then they are the moments at which frames come from a talker whose window has no width.
pub record NetworkStream : Type 0 where
  pub shortest : ℕ
  pub longest : ℕ
  pub period : ℕ
  pub jitter : ℕ
  pub offset : Option ℕ

-- The way from the port before: the stream's class there, and its place among the streams of that class; and the times of the link, from the
-- last octet that is sent to the arrival.
pub record Link : Type 0 where
  pub port : ℕ
  pub class : ℕ
  pub place : ℕ
  pub least : ℕ
  pub greatest : ℕ

-- A stream in a class of a port. Its frames come from the port before, or else from its talker: in a window of their own, and each starts
-- within bounds that count from when that begins.
pub record Hop : Type 0 where
  pub stream : ℕ
  pub before : Option Link
  pub earliest : ℕ
  pub latest : ℕ
  pub bound : Bound

-- Ports and streams are numbered. Some classes of ports are judged, in some order: to these come frames of streams alone. Of others may be
-- known for how long a frame that is taken needs the wire at most. The clocks of two ports differ by so much at most.
pub record Network : Type 0 where
  pub ports : ℕ → NetworkPort
  pub streams : ℕ → NetworkStream
  pub hops : (port class : ℕ) → List Hop
  pub judged : (port class : ℕ) → Bool
  pub order : (port class : ℕ) → ℕ
  pub limit : (port class : ℕ) → Option ℕ
  pub clocks : ℕ

-- the gap of 12 octets behind a frame (IEEE Std 802.3, 4.4.2)
abbrev pub gap : (ps : ℕ) → ℕ
gap ps = 12 * ps

-- 2. Frames

-- A run of a port: its events, the command that is accepted, and which frames those are that a class is offered, each by the place of its
-- stream in the class and its number.
pub record PortRun : Type 0 where
  pub events : List Event
  pub command : Accepted
  pub numbers : (class : ℕ) → List (ℕ × ℕ)

-- the moments of a stream's frames by its offset
abbrev pub AreMoments : (period jitter : ℕ) → Option ℕ → (ℕ → ℕ) → Type 0
AreMoments period jitter (Some offset) nominal = (n : ℕ) → nominal n ≡ offset + period * n
AreMoments period jitter None nominal = (k n : ℕ) → nominal k + period * n ≤ nominal (k + n) + jitter

abbrev pub AreNominal : NetworkStream → (ℕ → ℕ) → Type 0
AreNominal s nominal = AreMoments s.period s.jitter s.offset nominal

-- a frame has as many octets as those of a stream
abbrev pub IsLong : NetworkStream → Came → Type 0
IsLong s f = (s.shortest ≤ f.frame.len) × (f.frame.len ≤ s.longest)

-- a frame comes in the window of its hop, by the change moment of the port and its own nominal moment
abbrev pub IsWithin : (change nominal : ℕ) → Hop → Came → Type 0
IsWithin change nominal h f = (change + nominal + h.earliest ≤ f.moment) × (f.moment ≤ change + nominal + h.latest)

module _ (net : Network) (port class : ℕ) (r : PortRun) where
  abbrev pub offered_at : List Came
  offered_at = offered (net.ports port).ps (net.ports port).mtu (net.ports port).room class r.events

  abbrev pub queued_at : List Came
  queued_at = queued (net.ports port).ps (net.ports port).mtu (net.ports port).room class r.events

  abbrev pub started_at : List Start
  started_at = started (net.ports port).ps (net.ports port).mtu (net.ports port).room class r.events

  -- the frame at place k of those that the class is offered is number n of the stream at place i
  pub record IsNumbered (k i n : ℕ) (f : Came) (h : Hop) : Type 0 where
    pub came : slice_get offered_at k ≡ Some f
    pub number : slice_get (r.numbers class) k ≡ Some (i, n)
    pub hop : slice_get (net.hops port class) i ≡ Some h

  -- The port's schedule is its one command, and in force before a frame of the class comes. Each that comes is one of a stream's, and no two
  -- are the same one. Any of them may be missing.
  pub record IsClassRun : Type 0 where
    pub run : IsScheduledRun (net.ports port).ps (net.ports port).mtu (net.ports port).room class r.events r.command (net.ports port).plan
    pub known : (k : ℕ) (f : Came) → slice_get offered_at k ≡ Some f → (i n : ℕ) × (h : Hop) × IsNumbered k i n f h
    pub own : (j k : ℕ) (x : ℕ × ℕ) → slice_get (r.numbers class) j ≡ Some x → slice_get (r.numbers class) k ≡ Some x → j ≡ k

-- 3. Runs

module _ (net : Network) (runs : ℕ → PortRun) where
  -- moment zero, by a port's own clock
  abbrev pub zero_at : (port : ℕ) → ℕ
  zero_at port = (runs port).command.change + (net.ports port).since

  -- A frame's last octet leaves its port a gap before the frame's end. It comes to another port a time of the link later, by clocks that may
  -- differ; each clock counts from its own zero.
  pub record IsPassedOn (port : ℕ) (l : Link) (x : Start) (f : Came) : Type 0 where
    pub no_sooner : x.«end» + zero_at port + l.least ≤ f.moment + zero_at l.port + gap (net.ports l.port).ps + net.clocks
    pub no_later : f.moment + zero_at l.port + gap (net.ports l.port).ps ≤ x.«end» + zero_at port + l.greatest + net.clocks

  -- Frame n of a stream has come to the port before, with as many octets. And where that has dropped no frame of the class, so that starts
  -- stand at the places of frames, it has started there, and is passed on.
  pub record IsFromBefore (port n : ℕ) (l : Link) (f : Came) : Type 0 where
    pub place : ℕ
    pub frame : Came
    pub came : slice_get (offered_at net l.port l.class (runs l.port)) place ≡ Some frame
    pub number : slice_get ((runs l.port).numbers l.class) place ≡ Some (l.place, n)
    pub same : frame.frame.len ≡ f.frame.len
    pub sent : queued_at net l.port l.class (runs l.port) ≡ offered_at net l.port l.class (runs l.port)
        → (x : Start) × (slice_get (started_at net l.port l.class (runs l.port)) place ≡ Some x) × IsPassedOn port l x f

  -- A run of the network: one of each port, with the nominal moments of all frames. In each class that is judged, the frames of a stream come
  -- from its talker, in the window of the hop, or they are those that the port before has sent.
  pub record IsNetworkRun (nominal : (stream n : ℕ) → ℕ) : Type 0 where
    pub moments : (s : ℕ) → AreNominal (net.streams s) (nominal s)
    pub ports : (p class : ℕ) → net.judged p class ≡ true → IsClassRun net p class (runs p)
    pub others : (p class limit : ℕ) → net.limit p class ≡ Some limit
        → TakesUpTo (net.ports p).ps (net.ports p).mtu (net.ports p).room (runs p).events class limit
    pub talkers : (p class k i n : ℕ) (f : Came) (h : Hop) → net.judged p class ≡ true → IsNumbered net p class (runs p) k i n f h
        → h.before ≡ None → IsLong (net.streams h.stream) f × IsWithin (runs p).command.change (nominal h.stream n) h f
    pub links : (p class k i n : ℕ) (f : Came) (h : Hop) (l : Link) → net.judged p class ≡ true
        → IsNumbered net p class (runs p) k i n f h → h.before ≡ Some l → IsFromBefore p n l f
