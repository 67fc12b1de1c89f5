-- A network of which all is told: its ports, and its hops with their windows and bounds.
--
-- Where it is, what is told of it holds (network_claim, IsTold): windows follow from one another, and a class is judged after those from which
-- its frames come. Times are in picoseconds.
use Rattle.std.specs.Prelude.{◌≡◌, ◌⊎◌, ℕ, zero, suc, true, false, Option, Some, None, List, [], slice_get}
use Rattle.delay_bounds.specs.declared.Bound.{Bound}
use Rattle.path_bounds.specs.Hops.{is_own}
use Rattle.path_bounds.specs.Judged.{AreJudged, Known, class_in, port_in, unjudged}
use Rattle.path_bounds.specs.Start.{start_hops}
use Rattle.path_bounds.specs.declared.hop.Coming.TheVariants as Comings
use Rattle.path_bounds.specs.declared.hop.Hop.{Hop}
use Rattle.path_bounds.specs.declared.hop.PathPort.{PathPort}
use Rattle.path_bounds.specs.declared.hop.Span.{Span}
use Rattle.path_bounds.specs.declared.start.WayHop.{WayHop}
use Rattle.claims.specs.Network.{Hop as NetworkHop, Link, Network}
use Rattle.claims.specs.NetworkClaim.{IsTold}
use Rattle.path_claim.specs.Told.{bound_told, port_told, stream_told}
use Rattle.path_claim.specs.Windows.{IsFar, IsNear}

module _ (net : Network) (ports : List PathPort) (clocks : ℕ) (known : Known) where
  -- a hop of the network, in a class of a port, is the one at a place of all that are told, with its window and its bounds
  pub record IsHopAt (p class : ℕ) (a : NetworkHop) (k : ℕ) (h : Hop) : Type 0 where
    pub is : slice_get known.hops k ≡ Some h
    pub own : is_own p class h ≡ true
    pub span : Span
    pub coming : h.coming ≡ Comings.Within span
    pub bound : Bound
    pub bounded : h.bound ≡ Some bound
    pub stream : net.streams a.stream ≡ stream_told h.stream
    pub earliest : a.earliest ≡ span.earliest
    pub latest : a.latest ≡ span.latest
    pub waits : a.bound ≡ bound_told h.stream span bound

  -- it is the first of its way, or its frames come from the hop before, over the link between them
  abbrev pub IsPassedBy : Option Link → (k : ℕ) → NetworkHop → Hop → Type 0
  IsPassedBy None k a h = h.first ≡ true
  IsPassedBy (Some l) zero a h = ⊥
  IsPassedBy (Some l) (suc k) a h =
      (h.first ≡ false) × (l.least ≡ h.least) × (l.greatest ≡ h.greatest) × (b : NetworkHop) × (g : Hop)
      × (slice_get (net.hops l.port l.class) l.place ≡ Some b) × IsHopAt l.port l.class b k g × (b.stream ≡ a.stream)

  -- The ports are those that are told of. The classes that are judged here are those that were judged and have bounds, in their order, with all
  -- of their hops; and some to which nothing comes.
  pub record IsNetworkOf : Type 0 where
    pub clocks_same : net.clocks ≡ clocks
    pub ports_told : (p : ℕ) (q : PathPort) → slice_get ports p ≡ Some q → net.ports p ≡ port_told q
    pub judged : (p class : ℕ) → net.judged p class ≡ true
        → ((j pair : ℕ) × (slice_get known.order j ≡ Some pair) × (p ≡ port_in pair) × (class ≡ class_in pair)) ⊎ (net.hops p class ≡ [])
    pub bounded : (j pair k : ℕ) (h : Hop) (b : Bound) → slice_get known.order j ≡ Some pair → slice_get known.hops k ≡ Some h
        → is_own (port_in pair) (class_in pair) h ≡ true → h.bound ≡ Some b → net.judged (port_in pair) (class_in pair) ≡ true
    pub order : (j pair : ℕ) → slice_get known.order j ≡ Some pair → net.order (port_in pair) (class_in pair) ≡ j
    pub hops : (p class i : ℕ) (a : NetworkHop) → net.judged p class ≡ true → slice_get (net.hops p class) i ≡ Some a
        → (k : ℕ) × (h : Hop) × IsHopAt p class a k h × IsPassedBy a.before k a h

-- no sum of what is told comes near what 128 bits hold
pub record AreSmall (ports : List PathPort) (clocks : ℕ) (known : Known) : Type 0 where
  pub far : (p : ℕ) (q : PathPort) → slice_get ports p ≡ Some q → IsFar q clocks
  pub near : (k : ℕ) (h : Hop) (s : Span) → slice_get known.hops k ≡ Some h → h.coming ≡ Comings.Within s → IsNear h.stream.offset s

-- The law: a network of which all is told, once its classes were judged one after another, is told.
abbrev pub ToldLaw : Type 0
ToldLaw =
    (net : Network) (ports : List PathPort) (clocks : ℕ) (ways : List WayHop) (known : Known)
    → AreJudged ports clocks (unjudged ports (start_hops ports false ways)) known → AreSmall ports clocks known
    → IsNetworkOf net ports clocks known → IsTold net
