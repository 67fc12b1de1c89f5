-- Classes that are kept apart.
use Rattle.std.proofs.Common.{◌≡◌, ◌≢◌, ◌<◌, ℕ, zero, suc, ◌^◌, Bool, true, false, not, ◌||◌, eqb, List, [], ◌∷◌, All, inl, inr, refl, ap, ◌∙◌, arith}
use Rattle.std.proofs.lemmas.Bool.{cases_Bool, cases_eq, or_cases, or_left, or_right, and_parts, and_from, not-true, eq-eqb, eqb-true, both_ways, agree_below, agree_below_at, not_from_false}
use Rattle.gates.specs.declared.gate_list.Entry.{Entry}
use Rattle.gates.specs.Gate.{opens, is_apart_in, keeps_apart}
use Rattle.gates.specs.ListLaws.{OpensAlone, ApartLaw}

-- the class apart, the mask opens none
abbrev is_at : ℕ → ℕ → ℕ → Bool
is_at mask class other = eqb other class || not (opens mask other)

-- the test of an entry, and what it says, at one mask and class
abbrev test_agrees : ℕ → ℕ → Bool
test_agrees mask class = not (opens mask class) || (not (agree_below (is_at mask class) (λ n. true) 8) || eqb mask (2 ^ class))

abbrev mask_agrees : ℕ → Bool
mask_agrees mask = agree_below (test_agrees mask) (λ n. true) 8

masks_agree : agree_below mask_agrees (λ n. true) 256 ≡ true
masks_agree = refl

abbrev power_agrees : ℕ → Bool
power_agrees class = agree_below (is_at (2 ^ class) class) (λ n. true) 8

powers_agree : agree_below power_agrees (λ n. true) 8 ≡ true
powers_agree = refl

all_agree : (f : ℕ → Bool) (n : ℕ) → ((k : ℕ) → k < n → f k ≡ true) → agree_below f (λ k. true) n ≡ true
all_agree f zero h = refl
all_agree f (suc n) h = rw (h n (omega arith)) (all_agree f n (λ k l. h k (omega arith)))

-- a power of two opens one class
pub power_opens_one : (class other : ℕ) → class < 8 → other < 8 → other ≢ class → opens (2 ^ class) other ≡ false
power_opens_one class other low lower ne =
    let here = agree_below_at (is_at (2 ^ class) class) (λ n. true) 8 other (agree_below_at power_agrees (λ n. true) 8 class powers_agree low) lower in
    elim (or_cases (eqb other class) (not (opens (2 ^ class) other)) here) [
      | inl e ↦ absurd (ne (eqb-true other class e))
      | inr n ↦ not-true _ n
    ]

apart_opens : (class : ℕ) (e : Entry) → class < 8 → is_apart_in class e ≡ true → OpensAlone class e.mask
apart_opens class e low t o other lower ne =
    elim (or_cases (not (opens e.mask class)) (eqb e.mask (2 ^ class)) t) [
      | inl n ↦ absurd (both_ways _ (not-true _ n) o)
      | inr q ↦ ap (λ m. opens m other) (eqb-true e.mask (2 ^ class) q) ∙ power_opens_one class other low lower ne
    ]

opens_apart : (class : ℕ) (e : Entry) → class < 8 → e.mask < 256 → OpensAlone class e.mask → is_apart_in class e ≡ true
opens_apart class e low byte h =
    elim (cases_Bool (opens e.mask class)) [
      | inr f ↦ or_left _ _ (not_from_false _ f)
      | inl t ↦
          let each : (k : ℕ) → k < 8 → is_at e.mask class k ≡ true =
          λ k l. elim (cases_eq k class) [ inl q ↦ or_left _ _ (eq-eqb k class q) | inr ne ↦ or_right _ _ (not_from_false _ (h t k l ne)) ] in
          let all = all_agree (is_at e.mask class) 8 each in
          let here = agree_below_at (test_agrees e.mask) (λ n. true) 8 class (agree_below_at mask_agrees (λ n. true) 256 e.mask masks_agree byte) low in
          elim (or_cases (not (opens e.mask class)) _ here) [
            | inl n ↦ or_left _ _ n
            | inr m ↦ elim (or_cases (not (agree_below (is_at e.mask class) (λ n. true) 8)) _ m) [
              | inl n ↦ absurd (both_ways _ (not-true _ n) all)
              | inr q ↦ or_right _ _ q
            ]
          ]
    ]

told : (es : List Entry) (class : ℕ) → class < 8 → keeps_apart es class ≡ true → All (λ e. OpensAlone class e.mask) es
told [] class low t k d l = absurd (omega arith)
told (e ∷ es) class low t zero d l = apart_opens class e low (and_parts (is_apart_in class e) (keeps_apart es class) t).0
told (e ∷ es) class low t (suc k) d l = told es class low (and_parts (is_apart_in class e) (keeps_apart es class) t).1 k d (omega arith)

shown : (es : List Entry) (class : ℕ) → class < 8 → All (λ e. e.mask < 2 ^ 8) es → All (λ e. OpensAlone class e.mask) es → keeps_apart es class ≡ true
shown [] class low bytes all = refl
shown (e ∷ es) class low bytes all =
    and_from (is_apart_in class e) (keeps_apart es class)
    (opens_apart class e low (bytes zero e (omega arith)) (all zero e (omega arith)))
    (shown es class low (λ k d l. bytes (suc k) d (omega arith)) (λ k d l. all (suc k) d (omega arith)))

pub apart_is : (es : List Entry) (class : ℕ) → class < 8 → All (λ e. e.mask < 2 ^ 8) es → ApartLaw es class
apart_is es class low bytes = (told es class low, shown es class low bytes)
