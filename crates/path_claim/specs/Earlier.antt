-- A class is judged after all classes from which its frames come.
use Rattle.std.specs.Prelude.{◌≡◌, ◌<◌, ℕ, true, false, List, [], ◌∷◌, Option, Some, None, slice_get}
use Rattle.path_bounds.specs.Hops.{is_own}
use Rattle.path_bounds.specs.Judged.{AreJudged, Known, class_in, port_in, unjudged}
use Rattle.path_bounds.specs.Start.{start_hops}
use Rattle.path_bounds.specs.declared.hop.Coming.TheVariants as Comings
use Rattle.path_bounds.specs.declared.hop.Hop.{Hop}
use Rattle.path_bounds.specs.declared.hop.PathPort.{PathPort}
use Rattle.path_bounds.specs.declared.hop.Span.{Span}
use Rattle.path_bounds.specs.declared.start.WayHop.{WayHop}

module _ (order : List ℕ) (j pair : ℕ) where
  -- a hop is of a class that stands before place j
  abbrev pub IsSooner : Option Hop → Type 0
  IsSooner None = ⊥
  IsSooner (Some g) = (i r : ℕ) × (i < j) × (slice_get order i ≡ Some r) × (g.port ≡ port_in r) × (g.class ≡ Some (class_in r))

  -- so is the one before each hop of the class that has a window, and isn't the first of its way
  abbrev pub IsLater : Option Hop → Hop → Type 0
  IsLater before h =
      is_own (port_in pair) (class_in pair) h ≡ true → (behind : Span) → h.coming ≡ Comings.Within behind → h.first ≡ false → IsSooner before

  abbrev pub AreLater : Option Hop → List Hop → Type 0
  AreLater before [] = Unit {0}
  AreLater before (h ∷ hops) = IsLater before h × AreLater (Some h) hops

-- The law: so it is with each class that was judged.
abbrev pub EarlierLaw : Type 0
EarlierLaw =
    (ports : List PathPort) (clocks : ℕ) (ways : List WayHop) (known : Known)
    → AreJudged ports clocks (unjudged ports (start_hops ports false ways)) known
    → (j pair : ℕ) → slice_get known.order j ≡ Some pair → AreLater known.order j pair None known.hops
