-- A word of digits at the front of octets.
use Rattle.std.proofs.Common.{◌≡◌, ◌<◌, ◌≤◌, ℕ, ◌+◌, ◌*◌, true, false, List, [], ◌∷◌, ◌++◌, length, get_or, take, drop, None, Some, Option, refl, sym, ap, ◌∙◌, rules, arith}
use Rattle.std.specs.Prelude.{not, option_and_then}
use Rattle.std.specs.List.{list_all}
use Rattle.std.proofs.lemmas.Bool.{lt-ltb}
use Rattle.std.proofs.lemmas.List.{take-append-drop, take-take}
use Rattle.text.specs.Numbers.{BeginsWithNumber, IsNumber, at_most, behind_first, digit_in, first_number, is_digit, value_behind}
use Rattle.text.specs.Words.{is_blank, starts_blank, starts_with_break, words_of}
use Rattle.text.proofs.JoinedLaws.{and_first, and_second, word_before}
use Rattle.text.proofs.NumberWord.{value_first}
use Rattle.text.proofs.PlainWord.{both}

-- an octet that is a digit is one by its code
digit_code : (b d : ℕ) → digit_in 10 b ≡ Some d → is_digit b ≡ true
digit_code b d e = grind arith

digits_on : (n m b : ℕ) (bs : List ℕ) → ((k : ℕ) → value_behind 10 k bs ≡ Some m → list_all is_digit bs ≡ true) → (o : Option ℕ) → digit_in 10 b ≡ o → option_and_then (λ d. value_behind 10 (n * 10 + d) bs) o ≡ Some m → list_all is_digit (b ∷ bs) ≡ true
digits_on n m b bs after None is e = absurd cc
digits_on n m b bs after (Some d) is e = both _ _ (digit_code b d is) (after (n * 10 + d) e)

-- what has a value has digits alone
all_digits : (n m : ℕ) (xs : List ℕ) → value_behind 10 n xs ≡ Some m → list_all is_digit xs ≡ true
unfolding value_behind
all_digits n m [] e = refl
all_digits n m (b ∷ bs) e = digits_on n m b bs (λ k. all_digits k m bs) (digit_in 10 b) refl e

-- digits at the front, one or more
pub begins : (end n : ℕ) (octets rest : List ℕ) → 0 < end → end ≤ length octets → value_behind 10 0 (take end octets) ≡ Some n → rest ≡ drop end octets → BeginsWithNumber octets n rest
begins end n octets rest some within is behind =
    let long : length (take end octets) ≡ end = search (rules, arith) in
    record {
      word = take end octets;
      parts = sym (take-append-drop end octets) ∙ ap (λ t. take end octets ++ t) (sym behind);
      is_number = record {
        digits = both _ _ (lt-ltb 0 (length (take end octets)) (omega arith)) (all_digits 0 n (take end octets) is);
        number = λ most. value_first most end n octets some within is;
      };
    }

-- digits at the front of the first octets
pub at_front : (end n few : ℕ) (octets front rest : List ℕ) → 0 < end → end ≤ few → few ≤ length octets → front ≡ take few octets → value_behind 10 0 (take end front) ≡ Some n → rest ≡ drop end octets → BeginsWithNumber octets n rest
at_front end n few octets front rest some within there is value behind =
    begins end n octets rest some (omega arith) (sym (ap (λ xs. value_behind 10 0 (take end xs)) is ∙ ap (value_behind 10 0) (take-take end few octets within)) ∙ value) behind

digit_unblank : (b : ℕ) → is_digit b ≡ true → not (is_blank b) ≡ true
digit_unblank b e = grind arith

digits_unblank : (xs : List ℕ) → list_all is_digit xs ≡ true → list_all (λ octet. not (is_blank octet)) xs ≡ true
digits_unblank [] e = refl
digits_unblank (b ∷ bs) e = both _ _ (digit_unblank b (and_first _ _ e)) (digits_unblank bs (and_second _ _ e))

-- a number before a blank is the first word
pub number_before : (word rest : List ℕ) (n : ℕ) → IsNumber word n → starts_blank rest ≡ true → starts_with_break rest ≡ false → words_of (word ++ rest) ≡ word ∷ words_of rest
number_before [] rest n is blank whole = absurd (let some = is.digits in cc)
number_before (b ∷ bs) rest n is blank whole = word_before b bs rest (digits_unblank (b ∷ bs) (and_second _ _ is.digits)) blank whole

-- a space is a blank, and no line break
pub space_first : (rest : List ℕ) → 1 ≤ length rest → get_or rest 0 0 ≡ 32 → (starts_blank rest ≡ true) × (starts_with_break rest ≡ false)
space_first [] some space = absurd (omega arith)
space_first (b ∷ bs) some space = (rw space refl, rw space refl)

-- such a number is the first word
module _ (n : ℕ) (octets rest : List ℕ) (number : BeginsWithNumber octets n rest) (blank : starts_blank rest ≡ true) (whole : starts_with_break rest ≡ false) where
  pub first_word : words_of octets ≡ number.word ∷ words_of rest
  first_word = ap words_of number.parts ∙ number_before number.word rest n number.is_number blank whole

  pub first_is : (most : ℕ) → first_number most (words_of octets) ≡ Some (at_most most (Some n))
  first_is most = ap (first_number most) first_word ∙ ap Some (number.is_number.number most)

  pub behind_is : behind_first (words_of octets) ≡ words_of rest
  behind_is = ap behind_first first_word
