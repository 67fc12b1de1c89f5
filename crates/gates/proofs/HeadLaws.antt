-- What is kept of the heads, and the bits of a mask.
use native.Mathlib.Numerals.{unary_clauses}
use Rattle.std.proofs.Common.{◌≡◌, ◌<◌, ◌≤◌, ℕ, zero, suc, ◌/◌, ◌-◌, ◌^◌, ◌%◌, ◌==◌, inl, inr, List, [], ◌∷◌, length, map, Some, None, is_some, true, refl, sym, ap, ◌∙◌, subst, arith}
use Rattle.std.specs.Prelude.{nat_lt, slice_index_or, slice_set}
use Rattle.std.specs.Int.{bit_at}
use Rattle.std.specs.Int.Bits.{bit_and}
use Rattle.std.specs.Int.Count.{count_leading_zeros}
use Rattle.std.proofs.lemmas.Bool.{cases_eq, cases_lt, lt-ltb}
use Rattle.std.proofs.lemmas.List.{get_or-set_same, get_or-set_other}
use Rattle.std.proofs.lemmas.Nat.{and_le_l, pow_pos, leading_top, le-div, div_below}
use Rattle.std.proofs.lemmas.Nat.Bits.{bit_at_above}
use Rattle.gates.specs.Gate.{opens}
use Rattle.gates.specs.Heads.{need_kept, AreMarked}

-- what is kept of a class
pub kept_at : (needs : List ℕ) (class : ℕ) → slice_index_or (map need_kept needs) class None ≡ need_kept (slice_index_or needs class 0)
kept_at [] class = refl
kept_at (need ∷ needs) zero = refl
kept_at (need ∷ needs) (suc class) = kept_at needs class

pub kept_some : (need : ℕ) → 0 < need → need_kept need ≡ Some need
kept_some zero above = absurd (omega arith)
kept_some (suc need) above = refl

pub kept_is : (need d : ℕ) → need_kept need ≡ Some d → (need ≡ d) × (0 < d)
kept_is zero d is = absurd (by is)
  where
    by : None ≡ Some d → ⊥
    by e = cc
kept_is (suc need) d is = let same : suc need ≡ d = (cc) in (same, omega (arith, same))

pub kept_waits : (need : ℕ) → nat_lt 0 need ≡ is_some (need_kept need)
kept_waits zero = refl
kept_waits (suc need) = lt-ltb 0 (suc need) (omega arith)

-- another need of a class, with its mark
pub marked_set : (waits later : ℕ) (needs : List ℕ) (class need : ℕ) → AreMarked waits needs → class < length needs → opens later class ≡ nat_lt 0 need
    → ((other : ℕ) → other < 8 → (other ≡ class → ⊥) → opens later other ≡ opens waits other) → AreMarked later (slice_set needs class need)
marked_set waits later needs class need marked within here others k low =
    elim (cases_eq k class) [
      | inl same ↦ subst (λ c. opens later c ≡ nat_lt 0 (slice_index_or (slice_set needs class need) c 0)) (sym same) (here ∙ ap (nat_lt 0) (sym (get_or-set_same needs class need 0 within)))
      | inr other ↦ others k low other ∙ (marked k low ∙ ap (nat_lt 0) (sym (get_or-set_other needs class k need 0 other)))
    ]

-- a list of eight by its elements
pub eight : (xs : List ℕ) → length xs ≡ 8 → slice_index_or xs 0 0 ∷ slice_index_or xs 1 0 ∷ slice_index_or xs 2 0 ∷ slice_index_or xs 3 0 ∷ slice_index_or xs 4 0 ∷ slice_index_or xs 5 0 ∷ slice_index_or xs 6 0 ∷ slice_index_or xs 7 0 ∷ [] ≡ xs
eight (a ∷ b ∷ c ∷ d ∷ e ∷ f ∷ g ∷ h ∷ []) is = refl
eight (a ∷ b ∷ c ∷ d ∷ e ∷ f ∷ g ∷ h ∷ i ∷ xs) is = absurd (omega arith)
eight (a ∷ b ∷ c ∷ d ∷ e ∷ f ∷ g ∷ []) is = absurd (omega arith)
eight (a ∷ b ∷ c ∷ d ∷ e ∷ f ∷ []) is = absurd (omega arith)
eight (a ∷ b ∷ c ∷ d ∷ e ∷ []) is = absurd (omega arith)
eight (a ∷ b ∷ c ∷ d ∷ []) is = absurd (omega arith)
eight (a ∷ b ∷ c ∷ []) is = absurd (omega arith)
eight (a ∷ b ∷ []) is = absurd (omega arith)
eight (a ∷ []) is = absurd (omega arith)
eight [] is = absurd (omega arith)

-- the greatest class that a mask opens
pub record IsHighest (mask class : ℕ) : Type 0 where
  pub within : class < 8
  pub on : opens mask class ≡ true
  pub highest : (other : ℕ) → opens mask other ≡ true → other ≤ class

bit_of : (mask class : ℕ) → opens mask class ≡ true → bit_at mask class ≡ 1
bit_of mask class is = by (bit_at mask class) is
  where
    by : (b : ℕ) → (b == 1) ≡ true → b ≡ 1
    by b e = grind arith

pub highest_of : (mask : ℕ) → 0 < mask → mask < 2 ^ 8 → IsHighest mask (7 - count_leading_zeros 8 mask)
highest_of mask some octet =
    let top = leading_top 8 mask some octet in
    let same : top.0 ≡ 7 - count_leading_zeros 8 mask = (let is = top.1 in omega (arith, is)) in
    let low = le-div 1 mask (2 ^ top.0) (pow_pos top.0) (let least = top.2 in omega (arith, least)) in
    let below = simp unary_clauses at top.3 in
    let high = div_below mask (2 ^ top.0) 2 (pow_pos top.0) (omega (arith, below)) in
    let one : mask / 2 ^ top.0 ≡ 1 = omega (arith, low, high) in
    subst (IsHighest mask) same (record {
      within = let is = top.1 in omega (arith, is);
      on = ap (λ q. (q % 2) == 1) one;
      highest = λ other on. elim (cases_lt top.0 other) [
        | inl above ↦ absurd (let set = bit_of mask other on in let clear = bit_at_above mask (suc top.0) other top.3 above in omega (arith, set, clear))
        | inr below ↦ below
      ];
    })

-- a mask that loses the bit of a class gets less
pub cleared_less : (mask other class : ℕ) → opens mask class ≡ true → bit_at (bit_and mask other) class ≡ 0 → bit_and mask other < mask
cleared_less mask other class on clear =
    elim (cases_eq (bit_and mask other) mask) [
      | inl same ↦ absurd (let set = bit_of mask class on in let none = ap (λ m. bit_at m class) (sym same) ∙ clear in omega (arith, set, none))
      | inr apart ↦ let most = and_le_l mask other in omega (arith, most, apart)
    ]
