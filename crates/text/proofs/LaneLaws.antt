-- The mask of one load of octets.
use Rattle.std.proofs.Common.{◌≡◌, ℕ, suc, ◌+◌, ◌-◌, ◌%◌, ◌^◌, ◌<◌, ◌≤◌, Bool, true, false, cond, leb, List, [], ◌∷◌, map, length, replicate, take, Fits, w8, refl, ap, ap₂, ◌∙◌, arith}
use Rattle.std.specs.Prelude.{nat_lt, not}
use Rattle.std.specs.List.{list_all, prefix_len}
use Rattle.std.proofs.lemmas.Bool.{agree_below_at}
use Rattle.std.proofs.lemmas.List.{length-map}
use Rattle.std.proofs.lemmas.List.Sums.{prefix_len-le-length}
use Rattle.std.proofs.lemmas.Simd.{map-map, mask_l-mod, trailing_mask_l, zip2_splat, zip2_splat_left}
use lib.Count.{count_trailing_zeros}
use lib.Lanes.{Each1, mask_l, top, zip2}
use Rattle.text.specs.Numbers.{is_digit}
use Rattle.text.proofs.PlainWord.{both}

abbrev at_most : ℕ → ℕ → ℕ
at_most a b = cond (leb a b) 255 0

abbrev less : ℕ → ℕ → ℕ
less a b = (a + (256 - b)) % 256

-- octets of which some are wanted: those that are less than a limit after others, seen as octets of a ring
module _ (wanted : ℕ → Bool) (limit low : ℕ) (same : (x : ℕ) → x < 256 → top 7 (at_most limit (less x low)) ≡ not (wanted x)) where
  abbrev is_other : ℕ → Bool
  is_other octet = not (wanted octet)

  tops : (v : List ℕ) → Each1 (Fits w8) v → map (top 7) (map (λ x. at_most limit (less x low)) v) ≡ map is_other v
  tops [] fits = refl
  tops (x ∷ xs) fits = ap₂ (λ a b. a ∷ b) (same x fits.0.fits) (tops xs fits.1)

  -- a lane has its bit just where its octet isn't wanted
  pub others_of : (v : List ℕ) → length v ≡ 16 → Each1 (Fits w8) v → mask_l (map (top 7) (zip2 at_most (replicate 16 limit) (zip2 less v (replicate 16 low)))) % 2 ^ 64 ≡ mask_l (map is_other v)
  others_of v long fits =
      let lanes : zip2 at_most (replicate 16 limit) (zip2 less v (replicate 16 low)) ≡ map (λ x. at_most limit (less x low)) v =
      ap (zip2 at_most (replicate 16 limit)) (zip2_splat less v 16 low long) ∙ zip2_splat_left at_most limit 16 (map (λ x. less x low) v) (length-map v (λ x. less x low) ∙ long) ∙ map-map (at_most limit) (λ x. less x low) v in
      ap (λ l. mask_l (map (top 7) l) % 2 ^ 64) lanes ∙ ap (λ l. mask_l l % 2 ^ 64) (tops v fits) ∙ mask_l-mod (map is_other v) 64 (omega (arith, length-map v is_other))

-- a lane has its bit just where its octet is no digit
pub others : (v : List ℕ) → length v ≡ 16 → Each1 (Fits w8) v → mask_l (map (top 7) (zip2 at_most (replicate 16 10) (zip2 less v (replicate 16 48)))) % 2 ^ 64 ≡ mask_l (map (λ octet. not (is_digit octet)) v)
others = others_of is_digit 10 48 (λ x fit. agree_below_at (λ x. top 7 (at_most 10 (less x 48))) (λ octet. not (is_digit octet)) 256 x refl fit)

-- a lane has its bit just where its octet is a blank by itself, or another control
pub controls : (v : List ℕ) → length v ≡ 16 → Each1 (Fits w8) v → mask_l (map (top 7) (zip2 at_most (replicate 16 223) (zip2 less v (replicate 16 33)))) % 2 ^ 64 ≡ mask_l (map (λ octet. not (nat_lt 32 octet)) v)
controls = others_of (λ octet. nat_lt 32 octet) 223 33 (λ x fit. agree_below_at (λ x. top 7 (at_most 223 (less x 33))) (λ octet. not (nat_lt 32 octet)) 256 x refl fit)

front : (wanted : ℕ → Bool) (xs : List ℕ) → list_all wanted (take (prefix_len (λ x. not (not (wanted x))) xs) xs) ≡ true
front wanted [] = refl
front wanted (x ∷ xs) = by_octet (wanted x) refl (front wanted xs)
  where
    by_octet : (b : Bool) → wanted x ≡ b → list_all wanted (take (prefix_len (λ x. not (not (wanted x))) xs) xs) ≡ true
        → list_all wanted (take (cond (not (not b)) (1 + prefix_len (λ x. not (not (wanted x))) xs) 0) (x ∷ xs)) ≡ true
    by_octet true e more =
        let next : 1 + prefix_len (λ x. not (not (wanted x))) xs ≡ suc (prefix_len (λ x. not (not (wanted x))) xs) = omega arith in
        ap (λ k. list_all wanted (take k (x ∷ xs))) next ∙ both _ _ e more
    by_octet false e more = refl

-- as many wanted octets come first as the lowest bit says
module _ (wanted : ℕ → Bool) (v : List ℕ) (n : ℕ) (long : length v ≡ 16) (is : n ≡ mask_l (map (λ octet. not (wanted octet)) v)) (some : 0 < n) where
  counted : count_trailing_zeros 64 n ≡ prefix_len (λ x. not (not (wanted x))) v
  counted = ap (count_trailing_zeros 64) is ∙ trailing_mask_l (λ octet. not (wanted octet)) 64 v (omega arith) (omega (arith, is, some))

  pub within : count_trailing_zeros 64 n ≤ 16
  within = omega (arith, counted, prefix_len-le-length (λ x. not (not (wanted x))) v, long)

  pub are_wanted : list_all wanted (take (count_trailing_zeros 64 n) v) ≡ true
  are_wanted = ap (λ k. list_all wanted (take k v)) counted ∙ front wanted v
