-- In all that is told of hops, once classes are judged one after another, each window follows from the one before.
use Rattle.std.specs.Prelude.{◌≡◌, ℕ, Bool, true, false, List, [], ◌∷◌, Option, Some, None, slice_get}
use Rattle.delay_bounds.specs.declared.Bound.{Bound}
use Rattle.path_bounds.specs.Hops.{first_span, is_awaited}
use Rattle.path_bounds.specs.Judged.{AreJudged, Known, unjudged}
use Rattle.path_bounds.specs.Start.{start_hops}
use Rattle.path_bounds.specs.declared.hop.Coming.TheVariants as Comings
use Rattle.path_bounds.specs.declared.hop.Hop.{Hop}
use Rattle.path_bounds.specs.declared.hop.PathPort.{PathPort}
use Rattle.path_bounds.specs.declared.hop.Span.{Span}
use Rattle.path_bounds.specs.declared.start.WayHop.{WayHop}
use Rattle.path_claim.specs.Windows.{IsBehind}

module _ (ports : List PathPort) (clocks : ℕ) where
  -- the hop before has a window and bounds, and by these a window is told
  pub record IsFrom (g h : Hop) (behind : Span) : Type 0 where
    pub span : Span
    pub bound : Bound
    pub from : PathPort
    pub to : PathPort
    pub coming : g.coming ≡ Comings.Within span
    pub bounded : g.bound ≡ Some bound
    pub before : slice_get ports g.port ≡ Some from
    pub there : slice_get ports h.port ≡ Some to
    pub told : IsBehind from to clocks h span bound behind

  -- at the first port a window begins with the nominal moment, and at the others it is told by the hop before
  abbrev pub IsWindow : (first : Bool) → Option Hop → Hop → Span → Type 0
  IsWindow true before h behind = (p : PathPort) × (slice_get ports h.port ≡ Some p) × (behind ≡ first_span h.stream p.since)
  IsWindow false None h behind = ⊥
  IsWindow false (Some g) h behind = IsFrom g h behind

  -- so it is with a hop, where one has a window; and a first one isn't awaited
  pub record IsLinked (before : Option Hop) (h : Hop) : Type 0 where
    pub window : (behind : Span) → h.coming ≡ Comings.Within behind → IsWindow h.first before h behind
    pub known : h.first ≡ true → is_awaited h.coming ≡ false

  abbrev pub AreLinked : Option Hop → List Hop → Type 0
  AreLinked before [] = Unit {0}
  AreLinked before (h ∷ hops) = IsLinked before h × AreLinked (Some h) hops

-- The law: so it is with all of them, in the end.
abbrev pub LinkedLaw : Type 0
LinkedLaw =
    (ports : List PathPort) (clocks : ℕ) (ways : List WayHop) (known : Known)
    → AreJudged ports clocks (unjudged ports (start_hops ports false ways)) known → AreLinked ports clocks None known.hops
