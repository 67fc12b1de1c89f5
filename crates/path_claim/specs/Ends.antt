-- The end of a way, as it is told, holds in every run in which its class keeps time.
--
-- It counts from the nominal moment, by the clock of the port, with the gap behind the frame. Times are in picoseconds.
use Rattle.std.specs.Prelude.{◌≡◌, ◌<◌, ◌≤◌, ℕ, suc, ◌+◌, ◌-◌, ◌^◌, false, List, Some, slice_get}
use Rattle.abstract_port.specs.declared.Start.{Start}
use Rattle.abstract_port.specs.Traffic.{Came}
use Rattle.delay_bounds.specs.declared.Bound.{Bound}
use Rattle.stream_bounds.specs.Verdicts.{needs_of, plus}
use Rattle.traffic.specs.declared.table.Stream.{Stream}
use Rattle.path_bounds.specs.Hops.{gap_of, greatest_of}
use Rattle.path_bounds.specs.Judged.{AreJudged, Known, unjudged}
use Rattle.path_bounds.specs.Start.{start_hops}
use Rattle.path_bounds.specs.declared.hop.Coming.TheVariants as Comings
use Rattle.path_bounds.specs.declared.hop.Hop.{Hop}
use Rattle.path_bounds.specs.declared.hop.PathPort.{PathPort}
use Rattle.path_bounds.specs.declared.hop.Span.{Span}
use Rattle.path_bounds.specs.declared.start.WayHop.{WayHop}
use Rattle.claims.specs.Network.{Hop as NetworkHop, IsClassRun, IsNumbered, Network, PortRun, started_at, zero_at}
use Rattle.claims.specs.NetworkClaim.{KeepsTime}
use Rattle.path_claim.specs.Networks.{AreSmall, IsHopAt}
use Rattle.path_claim.specs.Told.{port_told}

module _ (p : PathPort) (x : Stream) (s : Span) (b : Bound) where
  -- when the shortest frame has ended that starts the earliest, and when the longest has that starts the latest, by the change moment
  abbrev pub first_end : ℕ
  first_end = plus (plus s.earliest b.least) (needs_of p.settings.port.rate x).shortest

  abbrev pub last_end : ℕ
  last_end = plus (plus s.earliest (greatest_of x s b)) (needs_of p.settings.port.rate x).longest

-- A frame that has started has ended as is told: no sooner, where that isn't before moment zero; and no later, where that is far from what 128
-- bits hold.
pub record EndsAsTold (net : Network) (runs : ℕ → PortRun) (nominal : (stream n : ℕ) → ℕ) (port class k n : ℕ) (p : PathPort) (a : NetworkHop)
    (h : Hop) (s : Span) (b : Bound) : Type 0 where
  pub no_sooner : (x : Start) → slice_get (started_at net port class (runs port)) k ≡ Some x → p.since ≤ first_end p h.stream s b
      → zero_at net runs port + nominal a.stream n + (first_end p h.stream s b - p.since) ≤ x.«end»
  pub no_later : (x : Start) → slice_get (started_at net port class (runs port)) k ≡ Some x → last_end p h.stream s b - p.since < 2 ^ 126
      → x.«end» ≤ zero_at net runs port + nominal a.stream n + (last_end p h.stream s b - p.since)

-- The law: so do all frames of a hop that is told, of a class that keeps time.
abbrev pub EndLaw : Type 0
EndLaw =
    (net : Network) (ports : List PathPort) (clocks : ℕ) (known : Known) (runs : ℕ → PortRun) (nominal : (stream n : ℕ) → ℕ)
    (port class place k i n : ℕ) (f : Came) (a : NetworkHop) (h : Hop) (p : PathPort) → p.since < 2 ^ 127 → net.ports port ≡ port_told p
    → KeepsTime net runs nominal port class → (at : IsHopAt net ports clocks known port class a place h)
    → IsNumbered net port class (runs port) k i n f a → EndsAsTold net runs nominal port class k n p a h at.span at.bound

-- The law: it has ended no sooner than is told, also where that is before the nominal moment, in a run of the port.
abbrev pub SoonerLaw : Type 0
SoonerLaw =
    (net : Network) (ports : List PathPort) (clocks : ℕ) (known : Known) (runs : ℕ → PortRun) (nominal : (stream n : ℕ) → ℕ)
    (port class place k i n : ℕ) (f : Came) (a : NetworkHop) (h : Hop) (p : PathPort) → net.ports port ≡ port_told p
    → IsClassRun net port class (runs port) → KeepsTime net runs nominal port class
    → (at : IsHopAt net ports clocks known port class a place h) → IsNumbered net port class (runs port) k i n f a
    → (x : Start) → slice_get (started_at net port class (runs port)) k ≡ Some x
    → zero_at net runs port + nominal a.stream n + first_end p h.stream at.span at.bound ≤ x.«end» + p.since

-- Clocks differ by no more than a frame takes at the least, from its beginning at a port to its arrival at the next one.
abbrev pub AreClose : List PathPort → (clocks : ℕ) → Known → Type 0
AreClose ports clocks known =
    (k : ℕ) (g h : Hop) (from : PathPort) → slice_get known.hops k ≡ Some g → slice_get known.hops (suc k) ≡ Some h → h.first ≡ false
    → slice_get ports g.port ≡ Some from
    → gap_of from.settings.port.rate + clocks ≤ (needs_of from.settings.port.rate h.stream).shortest + h.least

-- The law: where they do, no window begins before the nominal moment. So no least end that is told is cut off there.
abbrev pub EarliestLaw : Type 0
EarliestLaw =
    (ports : List PathPort) (clocks : ℕ) (ways : List WayHop) (known : Known)
    → AreJudged ports clocks (unjudged ports (start_hops ports false ways)) known → AreSmall ports clocks known → AreClose ports clocks known
    → (k : ℕ) (h : Hop) (s : Span) (b : Bound) (p : PathPort) → slice_get known.hops k ≡ Some h → h.coming ≡ Comings.Within s
    → slice_get ports h.port ≡ Some p → p.since ≤ first_end p h.stream s b
