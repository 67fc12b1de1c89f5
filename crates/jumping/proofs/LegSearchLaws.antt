-- Searches through legs.
use Rattle.std.proofs.Common.{◌≡◌, ◌<◌, ◌≤◌, ℕ, min, List, ◌∷◌, Option, Some, None, inl, inr, refl, sym, ap, ◌∙◌, subst, arith, le_refl}
use Rattle.std.proofs.lemmas.Bool.{cases_lt, le-leb}
use Rattle.std.specs.Option.{ForSome}
use Rattle.jumping.specs.Words.{has_come, Stretch, mask_of, mask_in, IsFlat, Following, from_of, until_of, stretch_of, stretches_in, stretches_ahead, NoneFits, Searched}
use Rattle.jumping.specs.declared.accepted_commands.leg.Leg.{Leg}
use Rattle.jumping.specs.declared.accepted_commands.leg.Leg.TheVariants.{Open}
use Rattle.jumping.specs.declared.accepted_commands.leg.OpenLeg.{OpenLeg}
use Rattle.jumping.proofs.LegLaws.{until_is}
use Rattle.jumping.proofs.SearchLaws.{searched_join, searched_over}
use Rattle.jumping.proofs.RepeatLaws.{not_yet, shows_own}

-- a leg that shows one mask
pub flat_leg : (leg : Leg) (rest : Following) (stop : ℕ) → from_of leg < stop → ForSome (until_of leg) (λ u. stop ≤ u) → IsFlat (mask_of (stretch_of leg)) (from_of leg) None → (n : ℕ) → from_of leg ≤ n → n < stop → mask_in (stretches_ahead leg rest) n ≡ mask_in (stretches_ahead leg rest) (from_of leg)
flat_leg leg rest stop some unended flat n from below =
    own n below
    ∙ (flat.same n from (λ u none. cc)
    ∙ sym (own (from_of leg) some))
  where
    own : (m : ℕ) → m < stop → mask_in (stretches_ahead leg rest) m ≡ mask_of (stretch_of leg) m
    own m early = shows_own (stretch_of leg) (stretches_in rest.next rest.last) m (ap (λ t. has_come t m) (until_is leg) ∙ not_yet (until_of leg) m stop early unended)

-- with no list one mask shows
pub flat_open : (leg : OpenLeg) → IsFlat (mask_of (stretch_of (Open leg))) leg.from None
flat_open leg = record { same = λ m l soon. refl; later = λ u none. cc }

-- a search that goes on in the next leg
pub searched_then : (leg next : Leg) (tail : List Stretch) (needs : List (Option ℕ)) (before : ℕ) (r : Option ℕ) → until_of leg ≡ Some (from_of next) → from_of leg ≤ from_of next → NoneFits (mask_in (stretch_of leg ∷ tail)) needs (from_of leg) (min (from_of next) before) → Searched (mask_in tail) needs (from_of next) before r → Searched (mask_in (stretch_of leg ∷ tail)) needs (from_of leg) before r
searched_then leg next tail needs before r ends l none s =
    elim (cases_lt before (from_of next)) [
      | inl past ↦ early r s past
      | inr within ↦
          (let come = ap (λ t. has_come t (from_of next)) (until_is leg ∙ ends) ∙ le-leb (from_of next) (from_of next) (le_refl (from_of next)) in
          searched_join (mask_in (stretch_of leg ∷ tail)) needs (from_of leg) (from_of next) before r l
          (subst (NoneFits (mask_in (stretch_of leg ∷ tail)) needs (from_of leg)) (omega arith) none)
          (searched_over (stretch_of leg) tail needs (from_of next) before r come s))
    ]
  where
    early : (r : Option ℕ) → Searched (mask_in tail) needs (from_of next) before r → before < from_of next → Searched (mask_in (stretch_of leg ∷ tail)) needs (from_of leg) before r
    early None s past = subst (NoneFits (mask_in (stretch_of leg ∷ tail)) needs (from_of leg)) (omega arith) none
    early (Some u) s past = let from : from_of next ≤ u = s.0 in let below : u < before = s.1 in absurd (omega arith)
