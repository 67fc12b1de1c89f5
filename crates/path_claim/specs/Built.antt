-- The network that is found: its ports, streams and classes are those of what is known of all hops, once classes are judged.
--
-- A stream is numbered by the place of the first hop of its way. A class is judged where it has bounds, or where nothing comes to it; its order
-- is its place among the classes that were judged.
use Rattle.std.specs.List.{list_any}
use Rattle.std.specs.Prelude.{◌≡◌, ◌<◌, ℕ, zero, suc, ◌-◌, ◌^◌, ◌==◌, ◌&&◌, ◌||◌, not, nat_lt, Bool, true, false, List, [], ◌∷◌, length, map, take, Option, Some, None, is_some, slice_get, unwrap_or, if◌then◌else◌}
use Rattle.delay_bounds.specs.declared.Bound.{Bound}
use Rattle.burst_bounds.specs.Talkers.{longest_need}
use Rattle.stream_bounds.specs.Classes.{most_sdu, talker_of}
use Rattle.stream_bounds.specs.Shared.{widest}
use Rattle.stream_bounds.specs.Standing.{may_send}
use Rattle.path_bounds.specs.Answers.{has_own}
use Rattle.path_bounds.specs.Hops.{entry_of, is_own}
use Rattle.path_bounds.specs.Judged.{AreJudged, Known, class_in, port_in, unjudged}
use Rattle.path_bounds.specs.Start.{start_hops}
use Rattle.path_bounds.specs.declared.hop.Coming.{Coming}
use Rattle.path_bounds.specs.declared.hop.Coming.TheVariants as Comings
use Rattle.path_bounds.specs.declared.hop.Hop.{Hop}
use Rattle.path_bounds.specs.declared.hop.PathPort.{PathPort}
use Rattle.path_bounds.specs.declared.hop.Span.{Span}
use Rattle.path_bounds.specs.declared.start.WayHop.{WayHop}
use Rattle.claims.specs.Network.{Hop as NetworkHop, Link, Network, NetworkPort, NetworkStream}
use Rattle.path_claim.specs.Answered.{own_hops}
use Rattle.path_claim.specs.Networks.{IsHopAt, IsNetworkOf}
use Rattle.path_claim.specs.PathClaim.{AreHopsAs}
use Rattle.path_claim.specs.Told.{bound_told, port_told, stream_told}

-- 1. What isn't there

abbrev pub no_port : NetworkPort
no_port = record {
  ps = 0;
  mtu = 0;
  room = 0;
  plan = record { entries = []; base = 0; cycle = 0; extension = 0 };
  since = 0;
}

abbrev pub no_stream : NetworkStream
no_stream = record { shortest = 0; longest = 0; period = 0; jitter = 0; offset = None }

abbrev pub no_span : Span
no_span = record { earliest = 0; latest = 0 }

abbrev pub no_bound : Bound
no_bound = record { least = 0; greatest = 0 }

-- 2. Ports and streams

abbrev pub port_by : Option PathPort → NetworkPort
port_by (Some p) = port_told p
port_by None = no_port

abbrev pub stream_by : Option Hop → NetworkStream
stream_by (Some h) = stream_told h.stream
stream_by None = no_stream

-- 3. Hops

-- a way begins there
abbrev pub begins_at : Option Hop → Bool
begins_at (Some h) = h.first
begins_at None = false

-- a class is below one
abbrev pub is_below : Option ℕ → (class : ℕ) → Bool
is_below (Some d) class = nat_lt d class
is_below None class = false

abbrev pub span_of : Coming → Span
span_of (Comings.Within s) = s
span_of Comings.Awaited = no_span
span_of Comings.Unknown = no_span
span_of Comings.Never = no_span

module _ (hops : List Hop) where
  -- the place of the first hop of a way, by that of any
  abbrev pub begin_of : (place : ℕ) → ℕ
  begin_of zero = zero
  begin_of (suc k) = if begins_at (slice_get hops (suc k)) then suc k else begin_of k

  -- how many hops of a class stand before a place: that is the place of the next one in its class
  abbrev pub place_of : (port class place : ℕ) → ℕ
  place_of port class k = length (own_hops port class (take k hops))

  -- the link to a hop from the one at a place
  abbrev pub link_by : (place : ℕ) → Option Hop → Hop → Option Link
  link_by k None h = None
  link_by k (Some g) h = Some (record {
    port = g.port;
    class = unwrap_or g.class 0;
    place = place_of g.port (unwrap_or g.class 0) k;
    least = h.least;
    greatest = h.greatest;
  })

  -- frames of a hop at a place come from the talker, or over the link from the hop before
  abbrev pub before_of : (place : ℕ) → Hop → Option Link
  before_of zero h = None
  before_of (suc k) h = if h.first then None else link_by k (slice_get hops k) h

  abbrev pub hop_at : (place : ℕ) → Hop → NetworkHop
  hop_at k h = record {
    stream = begin_of k;
    before = before_of k h;
    earliest = (span_of h.coming).earliest;
    latest = (span_of h.coming).latest;
    bound = bound_told h.stream (span_of h.coming) (unwrap_or h.bound no_bound);
  }

  -- those of a class, of the hops from a place on
  abbrev pub class_from : (port class place : ℕ) → List Hop → List NetworkHop
  class_from port class k [] = []
  class_from port class k (h ∷ behind) =
      if is_own port class h then hop_at k h ∷ class_from port class (suc k) behind else class_from port class (suc k) behind

  -- some lower class of a port has bounds
  abbrev pub has_below : (port class : ℕ) → Bool
  has_below port class = list_any (λ (h : Hop). (h.port == port && is_below h.class class) && is_some h.bound) hops

  -- a class has bounds
  abbrev pub has_bounds : (port class : ℕ) → Bool
  has_bounds port class = list_any (λ (h : Hop). is_own port class h && is_some h.bound) hops

-- 4. Classes of which nothing else is known

-- Nothing comes to a class: it has no hops, and no frame of another kind is sent.
abbrev pub quiet_by : Option PathPort → (port class : ℕ) → List Hop → Bool
quiet_by (Some p) port class hops = not (has_own port class hops) && not (may_send p.settings p.change class)
quiet_by None port class hops = false

-- For how long a frame that a port takes into a class needs the wire at most: as any that the port takes; or, where a lower class has bounds, as
-- the longest of its streams, if it has some.
abbrev pub limit_by : Option PathPort → (class : ℕ) → (below : Bool) → (own : List Hop) → Option ℕ
limit_by None class below own = None
limit_by (Some p) class below [] = Some (widest p.settings p.change class)
limit_by (Some p) class false (h ∷ own) = Some (widest p.settings p.change class)
limit_by (Some p) class true (h ∷ own) =
    Some (longest_need (map (talker_of p.settings.port.rate (most_sdu p.settings p.change class)) (map entry_of (h ∷ own))))

-- 5. The network

-- the place of a class among those that were judged
abbrev pub order_in : List ℕ → (port class : ℕ) → ℕ
order_in [] port class = 0
order_in (pair ∷ pairs) port class = if (port_in pair == port) && (class_in pair == class) then 0 else suc (order_in pairs port class)

abbrev pub network_of : List PathPort → (clocks : ℕ) → Known → Network
network_of ports clocks known = record {
  ports = λ (port : ℕ). port_by (slice_get ports port);
  streams = λ (place : ℕ). stream_by (slice_get known.hops place);
  hops = λ (port class : ℕ). class_from known.hops port class 0 known.hops;
  judged = λ (port class : ℕ). has_bounds known.hops port class || quiet_by (slice_get ports port) port class known.hops;
  order = λ (port class : ℕ). order_in known.order port class;
  limit = λ (port class : ℕ). limit_by (slice_get ports port) class (has_below known.hops port class) (own_hops port class known.hops);
  clocks = clocks;
}

-- 6. The law

-- Each port of a way is there, and all hops of a way are of one stream.
pub record AreWays (ports : List PathPort) (ways : List WayHop) : Type 0 where
  pub there : (k : ℕ) (w : WayHop) → slice_get ways k ≡ Some w → (p : PathPort) × (slice_get ports w.port ≡ Some p)
  pub along : (k : ℕ) (v w : WayHop) → slice_get ways k ≡ Some v → slice_get ways (suc k) ≡ Some w → w.first ≡ false → v.stream ≡ w.stream

-- No bound is what 128 bits hold at most: so none is cut off there.
abbrev pub AreWhole : Known → Type 0
AreWhole known = (k : ℕ) (h : Hop) (b : Bound) → slice_get known.hops k ≡ Some h → h.bound ≡ Some b → b.greatest < 2 ^ 128 - 1

-- The law: so it is, once classes were judged one after another.
abbrev pub WholeLaw : Type 0
WholeLaw =
    (ports : List PathPort) (clocks : ℕ) (ways : List WayHop) (known : Known)
    → AreJudged ports clocks (unjudged ports (start_hops ports false ways)) known → AreWhole known

module _ (net : Network) (ports : List PathPort) (clocks : ℕ) (known : Known) where
  -- a hop is in a class that is judged, at its place there
  pub record IsInClass (k : ℕ) (h : Hop) : Type 0 where
    pub class : ℕ
    pub judged : net.judged h.port class ≡ true
    pub hop : NetworkHop
    pub is : slice_get (net.hops h.port class) (place_of known.hops h.port class k) ≡ Some hop
    pub at : IsHopAt net ports clocks known h.port class hop k h

  -- The network is one of all that is told, all hops of classes that are judged are in it, and so is each with a window and bounds.
  pub record IsBuilt : Type 0 where
    pub is : IsNetworkOf net ports clocks known
    pub hops : (port class : ℕ) → net.judged port class ≡ true → AreHopsAs net (net.hops port class) (own_hops port class known.hops)
    pub each : (k : ℕ) (h : Hop) (s : Span) (b : Bound) → slice_get known.hops k ≡ Some h → h.coming ≡ Comings.Within s → h.bound ≡ Some b
        → IsInClass k h

-- The law: so is the network of what is known once classes were judged one after another.
abbrev pub BuiltLaw : Type 0
BuiltLaw =
    (ports : List PathPort) (clocks : ℕ) (ways : List WayHop) (known : Known) → AreWays ports ways
    → AreJudged ports clocks (unjudged ports (start_hops ports false ways)) known
    → IsBuilt (network_of ports clocks known) ports clocks known
