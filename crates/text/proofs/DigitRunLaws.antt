-- Runs of digits, one after another.
use Rattle.std.proofs.Common.{◌≡◌, ◌≤◌, ℕ, ◌+◌, ◌*◌, ◌^◌, zero, suc, true, List, [], ◌∷◌, ◌++◌, length, get_or, take, drop, None, Some, Option, refl, sym, ap, ◌∙◌, arith}
use Rattle.std.specs.Prelude.{option_and_then}
use Rattle.std.specs.List.{list_all}
use Rattle.std.proofs.lemmas.Grind.{pow_more}
use Rattle.std.proofs.lemmas.List.{length-drop, length-take-le, take-append-drop, take-take, drop-take}
use Rattle.text.specs.Numbers.{digit_in, is_digit, value_behind}
use Rattle.text.proofs.Digits.{value_append}
use Rattle.text.proofs.JoinedLaws.{and_first, and_second}
use Rattle.text.proofs.PlainWord.{both}

ten_times : (n p : ℕ) → n * 10 * p ≡ n * (p * 10)
ten_times n p = grind arith

further_on : (n k m b : ℕ) (bs : List ℕ) → ((i j : ℕ) → value_behind 10 j bs ≡ Some m → value_behind 10 (i + j) bs ≡ Some (i * 10 ^ length bs + m)) → (o : Option ℕ) → digit_in 10 b ≡ o → option_and_then (λ d. value_behind 10 (k * 10 + d) bs) o ≡ Some m
    → option_and_then (λ d. value_behind 10 ((n + k) * 10 + d) bs) (digit_in 10 b) ≡ Some (n * 10 ^ suc (length bs) + m)
further_on n k m b bs after None is e = absurd cc
further_on n k m b bs after (Some d) is e =
    let more = pow_more 10 (length bs) in
    let is_suc : length bs + 1 ≡ suc (length bs) = omega arith in
    ap (option_and_then (λ d. value_behind 10 ((n + k) * 10 + d) bs)) is
    ∙ ap (λ j. value_behind 10 j bs) (omega arith)
    ∙ after (n * 10) (k * 10 + d) e
    ∙ ap (λ j. Some (j + m)) (ten_times n (10 ^ length bs) ∙ ap (λ j. n * j) (sym more ∙ ap (λ i. 10 ^ i) is_suc))

-- what digits stand for after others, by what they stand for alone
value_further : (n k m : ℕ) (xs : List ℕ) → value_behind 10 k xs ≡ Some m → value_behind 10 (n + k) xs ≡ Some (n * 10 ^ length xs + m)
unfolding value_behind
value_further n k m [] e = (let same : k ≡ m = cc in ap Some (omega (arith, same)))
value_further n k m (b ∷ bs) e = further_on n k m b bs (λ i j. value_further i j m bs) (digit_in 10 b) refl e

parts : (i k : ℕ) (octets : List ℕ) → take (i + k) octets ≡ take i octets ++ take k (drop i octets)
parts i k octets =
    sym (take-append-drop i (take (i + k) octets)) ∙ ap (λ xs. xs ++ drop i (take (i + k) octets)) (take-take i (i + k) octets (omega arith)) ∙ ap (λ xs. take i octets ++ xs) (drop-take i k octets)

-- digits and more after them, as one number
pub joined_runs : (n m i k : ℕ) (octets : List ℕ) → i + k ≤ length octets → value_behind 10 0 (take i octets) ≡ Some n → value_behind 10 0 (take k (drop i octets)) ≡ Some m → value_behind 10 0 (take (i + k) octets) ≡ Some (n * 10 ^ k + m)
joined_runs n m i k octets long first second =
    let rest = take k (drop i octets) in
    let same : length rest ≡ k = length-take-le k (drop i octets) (omega (arith, length-drop i octets)) in
    ap (value_behind 10 0) (parts i k octets)
    ∙ value_append 10 0 n (take i octets) rest first
    ∙ ap (λ j. value_behind 10 j rest) (omega arith)
    ∙ value_further n 0 m rest second
    ∙ ap (λ j. Some (n * 10 ^ j + m)) same

digits_apart : (xs ys : List ℕ) → list_all is_digit (xs ++ ys) ≡ true → (list_all is_digit xs ≡ true) × (list_all is_digit ys ≡ true)
digits_apart [] ys all = (refl, all)
digits_apart (x ∷ xs) ys all =
    let rest = digits_apart xs ys (and_second _ _ all) in
    (both _ _ (and_first _ _ all) rest.0, rest.1)

-- digits, cut in two
pub cut_digits : (i k : ℕ) (octets : List ℕ) → list_all is_digit (take (i + k) octets) ≡ true → (list_all is_digit (take i octets) ≡ true) × (list_all is_digit (take k (drop i octets)) ≡ true)
cut_digits i k octets all = digits_apart (take i octets) (take k (drop i octets)) (ap (list_all is_digit) (sym (parts i k octets)) ∙ all)

-- the powers of ten, by a table
pub tens : (i : ℕ) → i ≤ 8 → get_or (1 ∷ 10 ∷ 100 ∷ 1000 ∷ 10000 ∷ 100000 ∷ 1000000 ∷ 10000000 ∷ 100000000 ∷ []) i 0 ≡ 10 ^ i
tens zero few = refl
tens (suc zero) few = refl
tens (suc (suc zero)) few = refl
tens (suc (suc (suc zero))) few = refl
tens (suc (suc (suc (suc zero)))) few = refl
tens (suc (suc (suc (suc (suc zero))))) few = refl
tens (suc (suc (suc (suc (suc (suc zero)))))) few = refl
tens (suc (suc (suc (suc (suc (suc (suc zero))))))) few = refl
tens (suc (suc (suc (suc (suc (suc (suc (suc zero)))))))) few = refl
tens (suc (suc (suc (suc (suc (suc (suc (suc (suc i))))))))) few = absurd (omega arith)
