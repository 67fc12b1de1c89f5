-- Reading a number digit by digit.
use Rattle.std.proofs.Common.{◌≡◌, ℕ, ◌+◌, ◌*◌, ◌^◌, ◌<◌, ◌≤◌, true, false, eqb, List, [], ◌∷◌, ◌++◌, length, get_or, take, drop, None, Some, Option, refl, ap, ◌∙◌, arith}
use Rattle.std.specs.Prelude.{option_and_then}
use Rattle.std.proofs.lemmas.Bool.{lt-leb}
use Rattle.std.proofs.lemmas.List.{at_drop_more, take_more}
use Rattle.std.proofs.Math.Nat.{le-mul_of_pos_right, pow-le-pow_right}
use Rattle.std.proofs.lemmas.Grind.{pow_more}
use Rattle.std.proofs.Math.ListN.{drop_of_length-le}
use Rattle.std.specs.Prelude.{if◌then◌else◌}
use Rattle.text.specs.Numbers.{digit_in, value_behind, at_most, number_in}

-- the step at a digit
pub at_digit : (base n i : ℕ) (word : List ℕ) → i < length word → value_behind base n (drop i word) ≡ option_and_then (λ d. value_behind base (n * base + d) (drop (i + 1) word)) (digit_in base (get_or word i 0))
unfolding value_behind
at_digit base n i word h = at_drop_more (value_behind base n) word i 0 h

-- digits after a number make no less of it
digits_more : (base n : ℕ) (bs : List ℕ) (m : ℕ) → 0 < base → ((k : ℕ) → value_behind base k bs ≡ Some m → k ≤ m) → (o : Option ℕ) → option_and_then (λ d. value_behind base (n * base + d) bs) o ≡ Some m → n ≤ m
digits_more base n bs m some after None e = absurd cc
digits_more base n bs m some after (Some d) e =
    let more : n * base + d ≤ m = after (n * base + d) e in
    let least : n ≤ n * base = le-mul_of_pos_right n some in
    omega arith

pub grows : (base n : ℕ) (bs : List ℕ) (m : ℕ) → 0 < base → value_behind base n bs ≡ Some m → n ≤ m
unfolding value_behind
grows base n [] m some e = (let same : n ≡ m = cc in omega arith)
grows base n (b ∷ bs) m some e = digits_more base n bs m some (λ k. grows base k bs m some) (digit_in base b) e

-- what is too large stays so
pub too_large : (base most n : ℕ) (bs : List ℕ) → 0 < base → most < n → at_most most (value_behind base n bs) ≡ None
too_large base most n bs some over = by_value (value_behind base n bs) refl
  where
    by_value : (o : Option ℕ) → value_behind base n bs ≡ o → at_most most o ≡ None
    by_value None e = refl
    by_value (Some m) e =
        let more : n ≤ m = grows base n bs m some e in
        let over : most < m = omega arith in
        rw (lt-leb m most over) refl

-- a number is what at_most leaves of its value
pub of_value : (base most : ℕ) (word : List ℕ) (v : Option ℕ) → value_behind base 0 word ≡ v → at_most most v ≡ None → number_in base most word ≡ None
of_value base most word v is none =
    elim (eqb (length word) 0) as (λ t. (if t then None else at_most most (value_behind base 0 word)) ≡ None) [ true ↦ refl | false ↦ ap (at_most most) is ∙ none ]

pub at_known_digit : (base n i : ℕ) (word : List ℕ) (o : Option ℕ) → i < length word → digit_in base (get_or word i 0) ≡ o → value_behind base n (drop i word) ≡ option_and_then (λ d. value_behind base (n * base + d) (drop (i + 1) word)) o
at_known_digit base n i word o h is = at_digit base n i word h ∙ ap (option_and_then (λ d. value_behind base (n * base + d) (drop (i + 1) word))) is

-- a digit after which the number is too large
pub past_most : (base most n d i : ℕ) (word : List ℕ) → 0 < base → i < length word → value_behind base 0 word ≡ value_behind base n (drop i word) → digit_in base (get_or word i 0) ≡ Some d → most < n * base + d → number_in base most word ≡ None
past_most base most n d i word some h whole is over =
    of_value base most word _ (whole ∙ at_known_digit base n i word (Some d) h is) (too_large base most (n * base + d) (drop (i + 1) word) some over)

-- at the end of the word
pub read_all : (base most n i : ℕ) (word : List ℕ) → eqb (length word) 0 ≡ false → length word ≤ i → value_behind base 0 word ≡ value_behind base n (drop i word) → number_in base most word ≡ at_most most (Some n)
unfolding value_behind
read_all base most n i word some end whole =
    ap (λ t. if t then None else at_most most (value_behind base 0 word)) some ∙ ap (at_most most) (whole ∙ ap (λ (l : List ℕ). value_behind base n l) (drop_of_length-le word end))

-- one digit more than less than so many digits
pub digit_fits : (n d i k : ℕ) → n < 10 ^ i → d < 10 → i < k → n * 10 + d < 10 ^ k
digit_fits n d i k short digit room =
    let step : 10 ^ (i + 1) ≡ 10 ^ i * 10 = pow_more 10 i in
    let more : 10 ^ (i + 1) ≤ 10 ^ k = pow-le-pow_right {n = 10} (omega arith) {i = i + 1} {j = k} (omega arith) in
    omega arith

-- a number of hexadecimal digits with one more stays below the power for its places
pub hex_fits : (n d i k : ℕ) → n < 16 ^ i → d < 16 → i < k → n * 16 + d < 16 ^ k
hex_fits n d i k short digit room =
    let step : 16 ^ (i + 1) ≡ 16 ^ i * 16 = pow_more 16 i in
    let more : 16 ^ (i + 1) ≤ 16 ^ k = pow-le-pow_right {n = 16} (omega arith) {i = i + 1} {j = k} (omega arith) in
    omega arith

value_on : (base n m : ℕ) (bs ys : List ℕ) → ((k : ℕ) → value_behind base k bs ≡ Some m → value_behind base k (bs ++ ys) ≡ value_behind base m ys) → (o : Option ℕ) → option_and_then (λ d. value_behind base (n * base + d) bs) o ≡ Some m → option_and_then (λ d. value_behind base (n * base + d) (bs ++ ys)) o ≡ value_behind base m ys
value_on base n m bs ys after None e = absurd cc
value_on base n m bs ys after (Some d) e = after (n * base + d) e

-- digits after digits that stand for a number
pub value_append : (base n m : ℕ) (xs ys : List ℕ) → value_behind base n xs ≡ Some m → value_behind base n (xs ++ ys) ≡ value_behind base m ys
unfolding value_behind
value_append base n m [] ys e = (let same : n ≡ m = cc in ap (λ k. value_behind base k ys) same)
value_append base n m (b ∷ bs) ys e = value_on base n m bs ys (λ k. value_append base k m bs ys) (digit_in base b) e

one_digit : (base n d b : ℕ) → digit_in base b ≡ Some d → value_behind base n (b ∷ []) ≡ Some (n * base + d)
unfolding value_behind
one_digit base n d b is = ap (option_and_then (λ d. Some (n * base + d))) is

-- a run of digits, one digit on
pub run_more_in : (base n d i : ℕ) (octets : List ℕ) → i < length octets → value_behind base 0 (take i octets) ≡ Some n → digit_in base (get_or octets i 0) ≡ Some d → value_behind base 0 (take (i + 1) octets) ≡ Some (n * base + d)
run_more_in base n d i octets within is digit =
    ap (value_behind base 0) (take_more octets i 0 within)
    ∙ value_append base 0 n (take i octets) (get_or octets i 0 ∷ []) is
    ∙ one_digit base n d (get_or octets i 0) digit

pub run_more : (n d i : ℕ) (octets : List ℕ) → i < length octets → value_behind 10 0 (take i octets) ≡ Some n → digit_in 10 (get_or octets i 0) ≡ Some d → value_behind 10 0 (take (i + 1) octets) ≡ Some (n * 10 + d)
run_more = run_more_in 10

-- a run of decimal digits, one digit on, with the bound that so many digits have
pub next_digit : (n i : ℕ) (octets : List ℕ) (d : ℕ) → i < length octets → value_behind 10 0 (take i octets) ≡ Some n → n < 10 ^ i → digit_in 10 (get_or octets i 0) ≡ Some d → d < 10 → (value_behind 10 0 (take (i + 1) octets) ≡ Some (n * 10 + d)) × (n * 10 + d < 10 ^ (i + 1))
next_digit n i octets d within is short digit small =
    (run_more n d i octets within is digit, digit_fits n d i (i + 1) short small (omega arith))

pub no_digits_in : (base n : ℕ) → value_behind base n [] ≡ Some n
unfolding value_behind
no_digits_in base n = refl

pub no_digits : (n : ℕ) → value_behind 10 n [] ≡ Some n
no_digits = no_digits_in 10
