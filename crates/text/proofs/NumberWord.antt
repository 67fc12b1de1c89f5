-- A first word that is a number.
use Rattle.std.proofs.Common.{◌≡◌, ◌<◌, ◌≤◌, ℕ, ◌+◌, ◌*◌, true, false, eqb, cond, List, [], ◌∷◌, length, take, drop, None, Some, Option, refl, sym, ap, ◌∙◌, rules, arith}
use Rattle.std.specs.Prelude.{not, option_and_then}
use Rattle.std.specs.List.{list_all}
use Rattle.std.proofs.lemmas.Bool.{ne_eqb}
use Rattle.text.specs.Numbers.{digit_in, value_behind, at_most, number_in}
use Rattle.text.specs.Words.{is_blank, starts_blank, starts_with_break, words_of}
use Rattle.text.proofs.PlainWord.{both, plain_first}

-- a digit is no blank
digit_unblank : (b d : ℕ) → digit_in 10 b ≡ Some d → not (is_blank b) ≡ true
digit_unblank b d e = grind arith

digits_on : (n m b : ℕ) (bs : List ℕ) → ((k : ℕ) → value_behind 10 k bs ≡ Some m → list_all (λ octet. not (is_blank octet)) bs ≡ true) → (o : Option ℕ) → digit_in 10 b ≡ o → option_and_then (λ d. value_behind 10 (n * 10 + d) bs) o ≡ Some m → list_all (λ octet. not (is_blank octet)) (b ∷ bs) ≡ true
digits_on n m b bs after None is e = absurd cc
digits_on n m b bs after (Some d) is e = both _ _ (digit_unblank b d is) (after (n * 10 + d) e)

-- nor are several
digits_unblank : (n m : ℕ) (xs : List ℕ) → value_behind 10 n xs ≡ Some m → list_all (λ octet. not (is_blank octet)) xs ≡ true
unfolding value_behind
digits_unblank n m [] e = refl
digits_unblank n m (b ∷ bs) e = digits_on n m b bs (λ k. digits_unblank k m bs) (digit_in 10 b) refl e

-- a run of digits before a blank is the first word
pub digits_first : (end n : ℕ) (octets : List ℕ) → 0 < end → end ≤ length octets → value_behind 10 0 (take end octets) ≡ Some n → starts_blank (drop end octets) ≡ true → starts_with_break (drop end octets) ≡ false → words_of octets ≡ take end octets ∷ words_of (drop end octets)
digits_first end n octets some within is = plain_first end octets some within (digits_unblank 0 n (take end octets) is)

-- and the number that they are
pub value_first : (most end n : ℕ) (octets : List ℕ) → 0 < end → end ≤ length octets → value_behind 10 0 (take end octets) ≡ Some n → number_in 10 most (take end octets) ≡ at_most most (Some n)
value_first most end n octets some within is =
    let long : length (take end octets) ≡ end = search (rules, arith) in
    let nonempty : eqb (length (take end octets)) 0 ≡ false = ne_eqb _ _ (λ none. omega arith) in
    ap (λ t. cond t None (at_most most (value_behind 10 0 (take end octets)))) nonempty ∙ ap (at_most most) is

-- the number that one digit is
pub one_digit : (most octet : ℕ) (o : Option ℕ) → digit_in 10 octet ≡ o → at_most most o ≡ at_most most (value_behind 10 0 (octet ∷ []))
unfolding value_behind
one_digit most octet None is = ap (λ o. at_most most (option_and_then (λ d. Some (0 * 10 + d)) o)) (sym is)
one_digit most octet (Some d) is = ap (at_most most) (ap Some (omega arith) ∙ ap (option_and_then (λ d. Some (0 * 10 + d))) (sym is))
