-- Of each hop with a window: its port takes all of its frames into its class, and the window is counted.
use Rattle.std.specs.Prelude.{◌≡◌, ◌<◌, ◌≤◌, ℕ, true, false, List, None, Some, slice_get}
use Rattle.stream_bounds.specs.Classes.{dropped_of}
use Rattle.path_bounds.specs.Hops.{is_counted, moved}
use Rattle.path_bounds.specs.Judged.{AreJudged, Known, unjudged}
use Rattle.path_bounds.specs.Start.{class_at, start_hops}
use Rattle.path_bounds.specs.declared.hop.Coming.TheVariants as Comings
use Rattle.path_bounds.specs.declared.hop.Hop.{Hop}
use Rattle.path_bounds.specs.declared.hop.PathPort.{PathPort}
use Rattle.path_bounds.specs.declared.hop.Span.{Span}
use Rattle.path_bounds.specs.declared.start.WayHop.{WayHop}
use Rattle.traffic.specs.declared.table.Stream.{Stream}

-- frames of a stream come one after another, and none is shorter than the shortest
pub record IsSent (x : Stream) : Type 0 where
  pub above : 0 < x.period
  pub lengths : x.shortest ≤ x.len

abbrev pub AreSent : List WayHop → Type 0
AreSent ways = (k : ℕ) (w : WayHop) → slice_get ways k ≡ Some w → IsSent w.stream

module _ (ports : List PathPort) where
  pub record IsSound (h : Hop) (s : Span) : Type 0 where
    pub sent : IsSent h.stream
    pub port : PathPort
    pub is : slice_get ports h.port ≡ Some port
    pub to : h.class ≡ class_at port h.stream
    pub none : dropped_of port.settings port.change h.stream ≡ None
    pub counted : is_counted (moved h.stream s) ≡ true

-- The law: so it is with each, once classes are judged.
abbrev pub SoundLaw : Type 0
SoundLaw =
    (ports : List PathPort) (clocks : ℕ) (ways : List WayHop) (known : Known) → AreSent ways
    → AreJudged ports clocks (unjudged ports (start_hops ports false ways)) known
    → (k : ℕ) (h : Hop) (s : Span) → slice_get known.hops k ≡ Some h → h.coming ≡ Comings.Within s → IsSound ports h s
