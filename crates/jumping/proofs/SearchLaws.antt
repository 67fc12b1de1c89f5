-- How searches are put together.
use Rattle.std.proofs.Common.{◌≡◌, ◌<◌, ◌≤◌, ℕ, ◌+◌, ◌-◌, max, true, false, List, ◌∷◌, slice_get, Option, Some, None, inl, inr, refl, ◌∙◌, arith}
use Rattle.std.proofs.lemmas.Bool.{cases_lt}
use Rattle.jumping.specs.Words.{has_come, open_while, NoneFrom, Stretch, mask_in, NoneFits, Fits, Searched}
use Rattle.gates.proofs.FirstLaws.{none_join}
use Rattle.gates.proofs.IdleLaws.{none_flat}
use Rattle.gates.proofs.StretchLaws.{over_while, come_later}
use Rattle.jumping.proofs.SteadyLaws.{none_steady}

pub fits_join : (f : ℕ → ℕ) (needs : List (Option ℕ)) (t m u : ℕ) → NoneFits f needs t m → NoneFits f needs m u → NoneFits f needs t u
fits_join f needs t m u a b class d there = none_join f class d t m u (a class d there) (b class d there)

pub fits_empty : (f : ℕ → ℕ) (needs : List (Option ℕ)) (t u : ℕ) → u ≤ t → NoneFits f needs t u
fits_empty f needs t u l class d there n from below = absurd (omega arith)

pub fits_less : (f : ℕ → ℕ) (needs : List (Option ℕ)) (t u v : ℕ) → v ≤ u → NoneFits f needs t u → NoneFits f needs t v
fits_less f needs t u v l none class d there n from below = none class d there n from (omega arith)

-- where one mask shows
pub fits_flat : (f : ℕ → ℕ) (needs : List (Option ℕ)) (t u : ℕ) → ((n : ℕ) → t ≤ n → n < u → f n ≡ f t) → ((class d : ℕ) → slice_get needs class ≡ Some (Some d) → open_while f class t d ≡ false) → NoneFits f needs t u
fits_flat f needs t u flat fails class d there = none_flat f class d t u flat (fails class d there)

-- a search goes on after a part with none
pub searched_join : (f : ℕ → ℕ) (needs : List (Option ℕ)) (t m stop : ℕ) (r : Option ℕ) → t ≤ m → NoneFits f needs t m → Searched f needs m stop r → Searched f needs t stop r
searched_join f needs t m stop None l none s = fits_join f needs t m stop none s
searched_join f needs t m stop (Some u) l none s =
    (let from : m ≤ u = s.0 in omega arith, s.1, fits_join f needs t m u none s.2, s.3)

-- what is found below an earlier stop is found
pub searched_more : (f : ℕ → ℕ) (needs : List (Option ℕ)) (t stop later u : ℕ) → stop ≤ later → Searched f needs t stop (Some u) → Searched f needs t later (Some u)
searched_more f needs t stop later u l s = (s.0, let below : u < stop = s.1 in omega arith, s.2, s.3)

-- what is not found in the stretches after it, from its end on, is not found at all
pub none_over : (s : Stretch) (rest : List Stretch) (class d t u : ℕ) → has_come s.until t ≡ true → NoneFrom (mask_in rest) class d t u → NoneFrom (mask_in (s ∷ rest)) class d t u
none_over s rest class d t u over none n from below =
    over_while s rest class n d (come_later s.until t n from over) ∙ none n from below

-- a search in the stretches after the first
pub searched_over : (s : Stretch) (rest : List Stretch) (needs : List (Option ℕ)) (t stop : ℕ) (r : Option ℕ) → has_come s.until t ≡ true → Searched (mask_in rest) needs t stop r → Searched (mask_in (s ∷ rest)) needs t stop r
searched_over s rest needs t stop None over none = λ class d there. none_over s rest class d t stop over (none class d there)
searched_over s rest needs t stop (Some u) over found =
    let at : Fits (mask_in rest) needs u = found.3 in (
      found.0,
      found.1,
      λ class d there. none_over s rest class d t u over (found.2 class d there),
      record {
        class = at.class;
        need = at.need;
        there = at.there;
        through = over_while s rest at.class u at.need (come_later s.until t u found.0 over) ∙ at.through;
      },
    )

-- one cycle from a on, and what repeats up to a cycle before the stop
pub none_jump : (f : ℕ → ℕ) (needs : List (Option ℕ)) (cycle a stop p : ℕ) → 0 < cycle → ((m : ℕ) → a ≤ m → m + cycle < stop → f (m + cycle) ≡ f m) → NoneFits f needs a (a + cycle) → p ≤ max (a + cycle) (stop - cycle) → NoneFits f needs a p
none_jump f needs cycle a stop p above same none l class d there n from below =
    elim (cases_lt n (a + cycle)) [
      | inl first ↦ none class d there n from first
      | inr later ↦ none_steady f class d cycle a stop above same (none class d there) n from (omega arith)
    ]

-- a search that found none
pub searched_none : (f : ℕ → ℕ) (needs : List (Option ℕ)) (t stop : ℕ) (r : Option ℕ) → ((u : ℕ) → r ≡ Some u → ⊥) → Searched f needs t stop r → NoneFits f needs t stop
searched_none f needs t stop None never s = s
searched_none f needs t stop (Some u) never s = absurd (never u refl)
