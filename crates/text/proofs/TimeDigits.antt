-- How many digits octets begin with.
use Rattle.std.proofs.Common.{◌≡◌, ◌<◌, ℕ, suc, List, [], ◌∷◌, true, false, cond, zero, refl, ap, length, drop, arith}
use Rattle.text.specs.Times.{leading_digits, starts_with_digit}

true≢false : false ≡ true → ⊥
true≢false e = cc

pub none_leading : (bs : List ℕ) → starts_with_digit bs ≡ false → leading_digits bs ≡ 0
none_leading [] e = refl
none_leading (b ∷ bs) e = ap (λ t. cond t (suc (leading_digits bs)) 0) e

pub within_digits : (n : ℕ) (bs : List ℕ) → starts_with_digit (drop n bs) ≡ true → n < length bs
within_digits zero [] e = absurd (true≢false e)
within_digits (suc n) [] e = absurd (true≢false e)
within_digits zero (b ∷ bs) e = omega arith
within_digits (suc n) (b ∷ bs) e = omega (arith, within_digits n bs e)

pub more_digits : (n : ℕ) (bs : List ℕ) → starts_with_digit (drop n bs) ≡ true → leading_digits (drop n bs) ≡ suc (leading_digits (drop (suc n) bs))
more_digits zero [] e = absurd (true≢false e)
more_digits (suc n) [] e = absurd (true≢false e)
more_digits zero (b ∷ bs) e = ap (λ t. cond t (suc (leading_digits bs)) 0) e
more_digits (suc n) (b ∷ bs) e = more_digits n bs e
