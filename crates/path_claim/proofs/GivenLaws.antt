-- What is given of hops stays as it is: they are those of the ways, once classes are judged.
use Rattle.std.proofs.Common.{◌≡◌, ℕ, zero, suc, ◌+◌, ◌&&◌, not, Bool, true, false, List, [], ◌∷◌, length, map, Option, Some, None, slice_get, if◌then◌else◌, refl, sym, ap, ◌∙◌}
use Rattle.std.proofs.lemmas.Option.{none-some, same_Some}
use Rattle.any_traffic.proofs.ListLaws.{none_here}
use Rattle.delay_bounds.specs.declared.Bound.{Bound}
use Rattle.path_bounds.specs.Hops.{arrived, coming_at, is_awaited, is_own, leaving_of, passed_by, passed_on}
use Rattle.path_bounds.specs.Judged.{AreJudged, AreSteps, Known, class_in, port_in, unjudged}
use Rattle.path_bounds.specs.Start.{hop_of, never_behind, start_hops, with_port}
use Rattle.path_bounds.specs.declared.hop.Hop.{Hop}
use Rattle.path_bounds.specs.declared.hop.PathPort.{PathPort}
use Rattle.path_bounds.specs.declared.pass.Leaving.{Leaving}
use Rattle.path_bounds.specs.declared.pass.Leaving.TheVariants as Leavings
use Rattle.path_bounds.specs.declared.start.WayHop.{WayHop}
use Rattle.path_claim.specs.Built.{AreWays}
use Rattle.path_claim.proofs.PathLaws.{length_map}

-- what was given of a hop
abbrev pub given_of : Hop → WayHop
given_of h = record { stream = h.stream; number = h.number; first = h.first; port = h.port; least = h.least; greatest = h.greatest }

pub get_map : {A B : Type 0} (f : A → B) (xs : List A) (k : ℕ) (x : A) → slice_get xs k ≡ Some x → slice_get (map f xs) k ≡ Some (f x)
get_map f [] k x e = absurd (none_here k x e)
get_map f (y ∷ xs) zero x e = ap (λ z. Some (f z)) (same_Some y x e)
get_map f (y ∷ xs) (suc k) x e = get_map f xs k x e

module _ (ports : List PathPort) (clocks : ℕ) where
  -- at the beginning
  begin_given : (ways : List WayHop) (never : Bool)
      → ((k : ℕ) (w : WayHop) → slice_get ways k ≡ Some w → (p : PathPort) × (slice_get ports w.port ≡ Some p))
      → map given_of (start_hops ports never ways) ≡ ways
  unfolding start_hops
  begin_given [] never there = refl
  begin_given (w ∷ ways) never there =
      by (slice_get ports w.port) refl (λ (next : Bool). begin_given ways next (λ (k : ℕ) (y : WayHop) e. there (suc k) y e))
    where
      by : (o : Option PathPort) → slice_get ports w.port ≡ o → ((next : Bool) → map given_of (start_hops ports next ways) ≡ ways)
          → map given_of (with_port o w never (λ next. start_hops ports next ways)) ≡ w ∷ ways
      by None is rest = (let p = there 0 w refl in absurd (none-some p.0 (sym is ∙ p.1)))
      by (Some p) is rest =
          ap (λ (ys : List WayHop). w ∷ ys) (rest (never_behind (never && not w.first) (hop_of p w (never && not w.first))))

  -- behind a step
  module _ (from : PathPort) (port class : ℕ) (left : List Bound) where
    arrived_given : (leaving : Leaving) (h : Hop) (awaited : Bool)
        → given_of (if awaited then record h { coming = coming_at from (slice_get ports h.port) clocks leaving h } else h) ≡ given_of h
    arrived_given leaving h true = refl
    arrived_given leaving h false = refl

    passed_given : (hops : List Hop) (place : ℕ) (leaving : Leaving)
        → map given_of (passed_on ports from clocks port class left place leaving hops) ≡ map given_of hops
    unfolding passed_on
    passed_given [] place leaving = refl
    passed_given (h ∷ hops) place leaving =
        by (arrived ports from clocks leaving h) (arrived_given leaving h (is_awaited h.coming))
        (is_own port class (arrived ports from clocks leaving h)) (λ (next : ℕ) (behind : Leaving). passed_given hops next behind)
      where
        by : (k : Hop) → given_of k ≡ given_of h → (own : Bool)
            → ((next : ℕ) (behind : Leaving) → map given_of (passed_on ports from clocks port class left next behind hops) ≡ map given_of hops)
            → map given_of
            (passed_by ports from clocks port class left own place k (λ next behind. passed_on ports from clocks port class left next behind hops))
            ≡ given_of h ∷ map given_of hops
        by k same true rest =
            ap (λ (y : WayHop). y ∷ map given_of (passed_on ports from clocks port class left (place + 1)
            (leaving_of k.coming (slice_get left place)) hops)) same
            ∙ ap (λ (ys : List WayHop). given_of h ∷ ys) (rest (place + 1) (leaving_of k.coming (slice_get left place)))
        by k same false rest =
            ap (λ (y : WayHop). y ∷ map given_of (passed_on ports from clocks port class left place Leavings.Other hops)) same
            ∙ ap (λ (ys : List WayHop). given_of h ∷ ys) (rest place Leavings.Other)

  steps_given : (pairs : List ℕ) (old new : Known) → AreSteps ports clocks pairs old new → map given_of new.hops ≡ map given_of old.hops
  steps_given [] old new steps = ap (λ (k : Known). map given_of k.hops) (sym steps)
  steps_given (pair ∷ pairs) old new steps =
      let step = steps.1 in
      steps_given pairs steps.0 new steps.2
      ∙ (ap (λ (hs : List Hop). map given_of hs) step.hops
      ∙ passed_given step.port (port_in pair) (class_in pair) (step.answer).left old.hops 0 Leavings.Other)

module _ (ports : List PathPort) (clocks : ℕ) (ways : List WayHop) (known : Known) (are : AreWays ports ways)
    (judged : AreJudged ports clocks (unjudged ports (start_hops ports false ways)) known) where
  all_given : map given_of known.hops ≡ ways
  all_given =
      steps_given ports clocks known.order (unjudged ports (start_hops ports false ways)) known judged.steps
      ∙ begin_given ports clocks ways false are.there

  pub given_at : (k : ℕ) (h : Hop) → slice_get known.hops k ≡ Some h → slice_get ways k ≡ Some (given_of h)
  given_at k h e = ap (λ (ws : List WayHop). slice_get ws k) (sym all_given) ∙ get_map given_of known.hops k h e

  pub given_count : length known.hops ≡ length ways
  given_count = sym (length_map given_of known.hops) ∙ ap length all_given

  pub along_law : (k : ℕ) (g h : Hop) → slice_get known.hops k ≡ Some g → slice_get known.hops (suc k) ≡ Some h → h.first ≡ false
      → g.stream ≡ h.stream
  along_law k g h one two first = are.along k (given_of g) (given_of h) (given_at k g one) (given_at (suc k) h two) first
