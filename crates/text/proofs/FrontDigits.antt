-- The digits of a number without the zeros in front, from the word of its eight digits.
use Rattle.std.proofs.Common.{◌≡◌, ◌<◌, ◌≤◌, ℕ, ◌+◌, ◌-◌, ◌*◌, ◌/◌, ◌%◌, ◌^◌, zero, suc, inl, inr, [], ◌∷◌, ◌++◌, take, sym, ap, ◌∙◌, subst, arith, rules}
use Rattle.std.specs.Int.{to_le_bytes, w64}
use Rattle.std.specs.Fmt.{decimal}
use Rattle.std.proofs.lemmas.Fmt.{decimal_digit, decimal_step_wide}
use Rattle.std.proofs.lemmas.Nat.Bits.{bit_at-trailing_zeros, bit_at_cat_low, bit_at_cat_high, bit_at-zero}
use Rattle.std.proofs.lemmas.Nat.{pow_pos}
use Rattle.std.proofs.lemmas.Bool.{cases_lt}
use lib.Count.{count_trailing_zeros}
use Rattle.text.specs.Digits.{digit_word, eight_lanes}

-- a word with a 1 in its last octet, so that a word of zeros has one too
abbrev zeros_of : ℕ → ℕ
zeros_of word = count_trailing_zeros 64 (word + 72057594037927936) / 8

-- the octets of a word from the first digit on that counts are the text of a number
abbrev pub IsFront : ℕ → ℕ → Type 0
IsFront word number = take (8 - zeros_of word) (to_le_bytes w64 (word / 2 ^ (8 * zeros_of word) + 3472328296227680304)) ≡ decimal number

append_digit : (n d : ℕ) → 0 < n → d < 10 → n < 10 ^ 8 → decimal (n * 10 + d) ≡ decimal n ++ ((48 + d) ∷ [])
append_digit n d some small fits =
    let front : (n * 10 + d) / 10 ≡ n = omega arith in
    let last : (n * 10 + d) % 10 ≡ d = omega arith in
    decimal_step_wide (n * 10 + d) (omega arith) (omega arith) ∙ ap (λ k. decimal k ++ ((48 + (n * 10 + d) % 10) ∷ [])) front ∙ ap (λ k. decimal n ++ ((48 + k) ∷ [])) last

octets_of : (a b c d e f g h : ℕ) → a < 10 → b < 10 → c < 10 → d < 10 → e < 10 → f < 10 → g < 10 → h < 10
    → to_le_bytes w64 (eight_lanes a b c d e f g h + 3472328296227680304) ≡ (48 + a) ∷ (48 + b) ∷ (48 + c) ∷ (48 + d) ∷ (48 + e) ∷ (48 + f) ∷ (48 + g) ∷ (48 + h) ∷ []
octets_of a b c d e f g h s0 s1 s2 s3 s4 s5 s6 s7 = search rules

-- where so many bits are 0, and not all of the next eight are
module _ (k m n : ℕ) (is : n ≡ m * 2 ^ k + 0) (one : 0 < m % 256) (some : 0 < n) (fits : n < 2 ^ 64) where
  abbrev place : ℕ
  place = count_trailing_zeros 64 n

  low : place < k → ⊥
  low below =
      let lowest = bit_at-trailing_zeros w64 n some fits in
      let none : n / 2 ^ place % 2 ≡ 0 = ap (λ x. x / 2 ^ place % 2) is ∙ bit_at_cat_low m k 0 place below ∙ bit_at-zero place in
      absurd (omega (arith, none, lowest.1))

  bit_of : (i : ℕ) → k + i < place → m / 2 ^ i % 2 ≡ 0
  bit_of i before =
      let lowest = bit_at-trailing_zeros w64 n some fits in
      let same : k + i - k ≡ i = omega arith in
      sym (ap (λ j. m / 2 ^ j % 2) same) ∙ sym (bit_at_cat_high m k 0 (k + i) (pow_pos k) (omega arith)) ∙ sym (ap (λ x. x / 2 ^ (k + i) % 2) is) ∙ lowest.2 (k + i) before

  high : k + 8 ≤ place → ⊥
  high past =
      let b0 : m / 1 % 2 ≡ 0 = bit_of 0 (omega (arith, past)) in
      let b1 : m / 2 % 2 ≡ 0 = bit_of 1 (omega (arith, past)) in
      let b2 : m / 4 % 2 ≡ 0 = bit_of 2 (omega (arith, past)) in
      let b3 : m / 8 % 2 ≡ 0 = bit_of 3 (omega (arith, past)) in
      let b4 : m / 16 % 2 ≡ 0 = bit_of 4 (omega (arith, past)) in
      let b5 : m / 32 % 2 ≡ 0 = bit_of 5 (omega (arith, past)) in
      let b6 : m / 64 % 2 ≡ 0 = bit_of 6 (omega (arith, past)) in
      let b7 : m / 128 % 2 ≡ 0 = bit_of 7 (omega (arith, past)) in
      absurd (omega (arith, one, b0, b1, b2, b3, b4, b5, b6, b7))

  pub from_place : k ≤ place
  from_place = elim (cases_lt place k) [ inl below ↦ absurd (low below) | inr past ↦ past ]

  pub before_next : place < k + 8
  before_next = elim (cases_lt place (k + 8)) [ inl below ↦ below | inr past ↦ absurd (high past) ]

zeros_are : (j m n : ℕ) → n ≡ m * 2 ^ (8 * j) + 0 → 0 < m % 256 → 0 < n → n < 2 ^ 64 → count_trailing_zeros 64 n / 8 ≡ j
zeros_are j m n is one some fits =
    let least = from_place (8 * j) m n is one some fits in
    let most = before_next (8 * j) m n is one some fits in
    omega (arith, least, most)

front_with : (j word number : ℕ) → zeros_of word ≡ j → take (8 - j) (to_le_bytes w64 (word / 2 ^ (8 * j) + 3472328296227680304)) ≡ decimal number → IsFront word number
front_with j word number is text = subst (λ i. take (8 - i) (to_le_bytes w64 (word / 2 ^ (8 * i) + 3472328296227680304)) ≡ decimal number) (sym is) text

-- where 1 digit counts
front_1 : (word number h : ℕ) → word ≡ eight_lanes 0 0 0 0 0 0 0 h → number ≡ h → h < 10 → IsFront word number
front_1 word number h word_is number_is s_h =
    let z : 0 < 10 = omega arith in
    let marked : word + 72057594037927936 ≡ eight_lanes (h + 1) 0 0 0 0 0 0 0 * 72057594037927936 + 0 = omega (arith, word_is) in
    let zeros : zeros_of word ≡ 7 = zeros_are 7 (eight_lanes (h + 1) 0 0 0 0 0 0 0) (word + 72057594037927936) marked (omega (arith, s_h)) (omega arith) (omega (arith, word_is, s_h)) in
    let moved : word / 72057594037927936 ≡ eight_lanes h 0 0 0 0 0 0 0 = omega (arith, word_is, s_h) in
    let d1 : decimal h ≡ (48 + h) ∷ [] = decimal_digit h s_h in
    front_with 7 word number zeros (ap (λ x. take 1 (to_le_bytes w64 (x + 3472328296227680304))) moved ∙ ap (take 1) (octets_of h 0 0 0 0 0 0 0 s_h z z z z z z z) ∙ sym (ap decimal number_is ∙ d1))

-- where 2 digits count
front_2 : (word number g h : ℕ) → word ≡ eight_lanes 0 0 0 0 0 0 g h → number ≡ (g * 10 + h) → 0 < g → g < 10 → h < 10 → IsFront word number
front_2 word number g h word_is number_is some s_g s_h =
    let z : 0 < 10 = omega arith in
    let marked : word + 72057594037927936 ≡ eight_lanes g (h + 1) 0 0 0 0 0 0 * 281474976710656 + 0 = omega (arith, word_is) in
    let zeros : zeros_of word ≡ 6 = zeros_are 6 (eight_lanes g (h + 1) 0 0 0 0 0 0) (word + 72057594037927936) marked (omega (arith, some, s_g, s_h)) (omega arith) (omega (arith, word_is, s_g, s_h)) in
    let moved : word / 281474976710656 ≡ eight_lanes g h 0 0 0 0 0 0 = omega (arith, word_is, s_g, s_h) in
    let d1 : decimal g ≡ (48 + g) ∷ [] = decimal_digit g s_g in
    let d2 : decimal (g * 10 + h) ≡ (48 + g) ∷ (48 + h) ∷ [] = append_digit g h (omega (arith, some)) s_h (omega (arith, s_g)) ∙ ap (λ l. l ++ ((48 + h) ∷ [])) d1 in
    front_with 6 word number zeros (ap (λ x. take 2 (to_le_bytes w64 (x + 3472328296227680304))) moved ∙ ap (take 2) (octets_of g h 0 0 0 0 0 0 s_g s_h z z z z z z) ∙ sym (ap decimal number_is ∙ d2))

-- where 3 digits count
front_3 : (word number f g h : ℕ) → word ≡ eight_lanes 0 0 0 0 0 f g h → number ≡ ((f * 10 + g) * 10 + h) → 0 < f → f < 10 → g < 10 → h < 10 → IsFront word number
front_3 word number f g h word_is number_is some s_f s_g s_h =
    let z : 0 < 10 = omega arith in
    let marked : word + 72057594037927936 ≡ eight_lanes f g (h + 1) 0 0 0 0 0 * 1099511627776 + 0 = omega (arith, word_is) in
    let zeros : zeros_of word ≡ 5 = zeros_are 5 (eight_lanes f g (h + 1) 0 0 0 0 0) (word + 72057594037927936) marked (omega (arith, some, s_f, s_g, s_h)) (omega arith) (omega (arith, word_is, s_f, s_g, s_h)) in
    let moved : word / 1099511627776 ≡ eight_lanes f g h 0 0 0 0 0 = omega (arith, word_is, s_f, s_g, s_h) in
    let d1 : decimal f ≡ (48 + f) ∷ [] = decimal_digit f s_f in
    let d2 : decimal (f * 10 + g) ≡ (48 + f) ∷ (48 + g) ∷ [] = append_digit f g (omega (arith, some)) s_g (omega (arith, s_f)) ∙ ap (λ l. l ++ ((48 + g) ∷ [])) d1 in
    let d3 : decimal ((f * 10 + g) * 10 + h) ≡ (48 + f) ∷ (48 + g) ∷ (48 + h) ∷ [] = append_digit (f * 10 + g) h (omega (arith, some)) s_h (omega (arith, s_f, s_g)) ∙ ap (λ l. l ++ ((48 + h) ∷ [])) d2 in
    front_with 5 word number zeros (ap (λ x. take 3 (to_le_bytes w64 (x + 3472328296227680304))) moved ∙ ap (take 3) (octets_of f g h 0 0 0 0 0 s_f s_g s_h z z z z z) ∙ sym (ap decimal number_is ∙ d3))

-- where 4 digits count
front_4 : (word number e f g h : ℕ) → word ≡ eight_lanes 0 0 0 0 e f g h → number ≡ (((e * 10 + f) * 10 + g) * 10 + h) → 0 < e → e < 10 → f < 10 → g < 10 → h < 10 → IsFront word number
front_4 word number e f g h word_is number_is some s_e s_f s_g s_h =
    let z : 0 < 10 = omega arith in
    let marked : word + 72057594037927936 ≡ eight_lanes e f g (h + 1) 0 0 0 0 * 4294967296 + 0 = omega (arith, word_is) in
    let zeros : zeros_of word ≡ 4 = zeros_are 4 (eight_lanes e f g (h + 1) 0 0 0 0) (word + 72057594037927936) marked (omega (arith, some, s_e, s_f, s_g, s_h)) (omega arith) (omega (arith, word_is, s_e, s_f, s_g, s_h)) in
    let moved : word / 4294967296 ≡ eight_lanes e f g h 0 0 0 0 = omega (arith, word_is, s_e, s_f, s_g, s_h) in
    let d1 : decimal e ≡ (48 + e) ∷ [] = decimal_digit e s_e in
    let d2 : decimal (e * 10 + f) ≡ (48 + e) ∷ (48 + f) ∷ [] = append_digit e f (omega (arith, some)) s_f (omega (arith, s_e)) ∙ ap (λ l. l ++ ((48 + f) ∷ [])) d1 in
    let d3 : decimal ((e * 10 + f) * 10 + g) ≡ (48 + e) ∷ (48 + f) ∷ (48 + g) ∷ [] = append_digit (e * 10 + f) g (omega (arith, some)) s_g (omega (arith, s_e, s_f)) ∙ ap (λ l. l ++ ((48 + g) ∷ [])) d2 in
    let d4 : decimal (((e * 10 + f) * 10 + g) * 10 + h) ≡ (48 + e) ∷ (48 + f) ∷ (48 + g) ∷ (48 + h) ∷ [] = append_digit ((e * 10 + f) * 10 + g) h (omega (arith, some)) s_h (omega (arith, s_e, s_f, s_g)) ∙ ap (λ l. l ++ ((48 + h) ∷ [])) d3 in
    front_with 4 word number zeros (ap (λ x. take 4 (to_le_bytes w64 (x + 3472328296227680304))) moved ∙ ap (take 4) (octets_of e f g h 0 0 0 0 s_e s_f s_g s_h z z z z) ∙ sym (ap decimal number_is ∙ d4))

-- where 5 digits count
front_5 : (word number d e f g h : ℕ) → word ≡ eight_lanes 0 0 0 d e f g h → number ≡ ((((d * 10 + e) * 10 + f) * 10 + g) * 10 + h) → 0 < d → d < 10 → e < 10 → f < 10 → g < 10 → h < 10 → IsFront word number
front_5 word number d e f g h word_is number_is some s_d s_e s_f s_g s_h =
    let z : 0 < 10 = omega arith in
    let marked : word + 72057594037927936 ≡ eight_lanes d e f g (h + 1) 0 0 0 * 16777216 + 0 = omega (arith, word_is) in
    let zeros : zeros_of word ≡ 3 = zeros_are 3 (eight_lanes d e f g (h + 1) 0 0 0) (word + 72057594037927936) marked (omega (arith, some, s_d, s_e, s_f, s_g, s_h)) (omega arith) (omega (arith, word_is, s_d, s_e, s_f, s_g, s_h)) in
    let moved : word / 16777216 ≡ eight_lanes d e f g h 0 0 0 = omega (arith, word_is, s_d, s_e, s_f, s_g, s_h) in
    let d1 : decimal d ≡ (48 + d) ∷ [] = decimal_digit d s_d in
    let d2 : decimal (d * 10 + e) ≡ (48 + d) ∷ (48 + e) ∷ [] = append_digit d e (omega (arith, some)) s_e (omega (arith, s_d)) ∙ ap (λ l. l ++ ((48 + e) ∷ [])) d1 in
    let d3 : decimal ((d * 10 + e) * 10 + f) ≡ (48 + d) ∷ (48 + e) ∷ (48 + f) ∷ [] = append_digit (d * 10 + e) f (omega (arith, some)) s_f (omega (arith, s_d, s_e)) ∙ ap (λ l. l ++ ((48 + f) ∷ [])) d2 in
    let d4 : decimal (((d * 10 + e) * 10 + f) * 10 + g) ≡ (48 + d) ∷ (48 + e) ∷ (48 + f) ∷ (48 + g) ∷ [] = append_digit ((d * 10 + e) * 10 + f) g (omega (arith, some)) s_g (omega (arith, s_d, s_e, s_f)) ∙ ap (λ l. l ++ ((48 + g) ∷ [])) d3 in
    let d5 : decimal ((((d * 10 + e) * 10 + f) * 10 + g) * 10 + h) ≡ (48 + d) ∷ (48 + e) ∷ (48 + f) ∷ (48 + g) ∷ (48 + h) ∷ [] = append_digit (((d * 10 + e) * 10 + f) * 10 + g) h (omega (arith, some)) s_h (omega (arith, s_d, s_e, s_f, s_g)) ∙ ap (λ l. l ++ ((48 + h) ∷ [])) d4 in
    front_with 3 word number zeros (ap (λ x. take 5 (to_le_bytes w64 (x + 3472328296227680304))) moved ∙ ap (take 5) (octets_of d e f g h 0 0 0 s_d s_e s_f s_g s_h z z z) ∙ sym (ap decimal number_is ∙ d5))

-- where 6 digits count
front_6 : (word number c d e f g h : ℕ) → word ≡ eight_lanes 0 0 c d e f g h → number ≡ (((((c * 10 + d) * 10 + e) * 10 + f) * 10 + g) * 10 + h) → 0 < c → c < 10 → d < 10 → e < 10 → f < 10 → g < 10 → h < 10 → IsFront word number
front_6 word number c d e f g h word_is number_is some s_c s_d s_e s_f s_g s_h =
    let z : 0 < 10 = omega arith in
    let marked : word + 72057594037927936 ≡ eight_lanes c d e f g (h + 1) 0 0 * 65536 + 0 = omega (arith, word_is) in
    let zeros : zeros_of word ≡ 2 = zeros_are 2 (eight_lanes c d e f g (h + 1) 0 0) (word + 72057594037927936) marked (omega (arith, some, s_c, s_d, s_e, s_f, s_g, s_h)) (omega arith) (omega (arith, word_is, s_c, s_d, s_e, s_f, s_g, s_h)) in
    let moved : word / 65536 ≡ eight_lanes c d e f g h 0 0 = omega (arith, word_is, s_c, s_d, s_e, s_f, s_g, s_h) in
    let d1 : decimal c ≡ (48 + c) ∷ [] = decimal_digit c s_c in
    let d2 : decimal (c * 10 + d) ≡ (48 + c) ∷ (48 + d) ∷ [] = append_digit c d (omega (arith, some)) s_d (omega (arith, s_c)) ∙ ap (λ l. l ++ ((48 + d) ∷ [])) d1 in
    let d3 : decimal ((c * 10 + d) * 10 + e) ≡ (48 + c) ∷ (48 + d) ∷ (48 + e) ∷ [] = append_digit (c * 10 + d) e (omega (arith, some)) s_e (omega (arith, s_c, s_d)) ∙ ap (λ l. l ++ ((48 + e) ∷ [])) d2 in
    let d4 : decimal (((c * 10 + d) * 10 + e) * 10 + f) ≡ (48 + c) ∷ (48 + d) ∷ (48 + e) ∷ (48 + f) ∷ [] = append_digit ((c * 10 + d) * 10 + e) f (omega (arith, some)) s_f (omega (arith, s_c, s_d, s_e)) ∙ ap (λ l. l ++ ((48 + f) ∷ [])) d3 in
    let d5 : decimal ((((c * 10 + d) * 10 + e) * 10 + f) * 10 + g) ≡ (48 + c) ∷ (48 + d) ∷ (48 + e) ∷ (48 + f) ∷ (48 + g) ∷ [] = append_digit (((c * 10 + d) * 10 + e) * 10 + f) g (omega (arith, some)) s_g (omega (arith, s_c, s_d, s_e, s_f)) ∙ ap (λ l. l ++ ((48 + g) ∷ [])) d4 in
    let d6 : decimal (((((c * 10 + d) * 10 + e) * 10 + f) * 10 + g) * 10 + h) ≡ (48 + c) ∷ (48 + d) ∷ (48 + e) ∷ (48 + f) ∷ (48 + g) ∷ (48 + h) ∷ [] = append_digit ((((c * 10 + d) * 10 + e) * 10 + f) * 10 + g) h (omega (arith, some)) s_h (omega (arith, s_c, s_d, s_e, s_f, s_g)) ∙ ap (λ l. l ++ ((48 + h) ∷ [])) d5 in
    front_with 2 word number zeros (ap (λ x. take 6 (to_le_bytes w64 (x + 3472328296227680304))) moved ∙ ap (take 6) (octets_of c d e f g h 0 0 s_c s_d s_e s_f s_g s_h z z) ∙ sym (ap decimal number_is ∙ d6))

-- where 7 digits count
front_7 : (word number b c d e f g h : ℕ) → word ≡ eight_lanes 0 b c d e f g h → number ≡ ((((((b * 10 + c) * 10 + d) * 10 + e) * 10 + f) * 10 + g) * 10 + h) → 0 < b → b < 10 → c < 10 → d < 10 → e < 10 → f < 10 → g < 10 → h < 10 → IsFront word number
front_7 word number b c d e f g h word_is number_is some s_b s_c s_d s_e s_f s_g s_h =
    let z : 0 < 10 = omega arith in
    let marked : word + 72057594037927936 ≡ eight_lanes b c d e f g (h + 1) 0 * 256 + 0 = omega (arith, word_is) in
    let zeros : zeros_of word ≡ 1 = zeros_are 1 (eight_lanes b c d e f g (h + 1) 0) (word + 72057594037927936) marked (omega (arith, some, s_b, s_c, s_d, s_e, s_f, s_g, s_h)) (omega arith) (omega (arith, word_is, s_b, s_c, s_d, s_e, s_f, s_g, s_h)) in
    let moved : word / 256 ≡ eight_lanes b c d e f g h 0 = omega (arith, word_is, s_b, s_c, s_d, s_e, s_f, s_g, s_h) in
    let d1 : decimal b ≡ (48 + b) ∷ [] = decimal_digit b s_b in
    let d2 : decimal (b * 10 + c) ≡ (48 + b) ∷ (48 + c) ∷ [] = append_digit b c (omega (arith, some)) s_c (omega (arith, s_b)) ∙ ap (λ l. l ++ ((48 + c) ∷ [])) d1 in
    let d3 : decimal ((b * 10 + c) * 10 + d) ≡ (48 + b) ∷ (48 + c) ∷ (48 + d) ∷ [] = append_digit (b * 10 + c) d (omega (arith, some)) s_d (omega (arith, s_b, s_c)) ∙ ap (λ l. l ++ ((48 + d) ∷ [])) d2 in
    let d4 : decimal (((b * 10 + c) * 10 + d) * 10 + e) ≡ (48 + b) ∷ (48 + c) ∷ (48 + d) ∷ (48 + e) ∷ [] = append_digit ((b * 10 + c) * 10 + d) e (omega (arith, some)) s_e (omega (arith, s_b, s_c, s_d)) ∙ ap (λ l. l ++ ((48 + e) ∷ [])) d3 in
    let d5 : decimal ((((b * 10 + c) * 10 + d) * 10 + e) * 10 + f) ≡ (48 + b) ∷ (48 + c) ∷ (48 + d) ∷ (48 + e) ∷ (48 + f) ∷ [] = append_digit (((b * 10 + c) * 10 + d) * 10 + e) f (omega (arith, some)) s_f (omega (arith, s_b, s_c, s_d, s_e)) ∙ ap (λ l. l ++ ((48 + f) ∷ [])) d4 in
    let d6 : decimal (((((b * 10 + c) * 10 + d) * 10 + e) * 10 + f) * 10 + g) ≡ (48 + b) ∷ (48 + c) ∷ (48 + d) ∷ (48 + e) ∷ (48 + f) ∷ (48 + g) ∷ [] = append_digit ((((b * 10 + c) * 10 + d) * 10 + e) * 10 + f) g (omega (arith, some)) s_g (omega (arith, s_b, s_c, s_d, s_e, s_f)) ∙ ap (λ l. l ++ ((48 + g) ∷ [])) d5 in
    let d7 : decimal ((((((b * 10 + c) * 10 + d) * 10 + e) * 10 + f) * 10 + g) * 10 + h) ≡ (48 + b) ∷ (48 + c) ∷ (48 + d) ∷ (48 + e) ∷ (48 + f) ∷ (48 + g) ∷ (48 + h) ∷ [] = append_digit (((((b * 10 + c) * 10 + d) * 10 + e) * 10 + f) * 10 + g) h (omega (arith, some)) s_h (omega (arith, s_b, s_c, s_d, s_e, s_f, s_g)) ∙ ap (λ l. l ++ ((48 + h) ∷ [])) d6 in
    front_with 1 word number zeros (ap (λ x. take 7 (to_le_bytes w64 (x + 3472328296227680304))) moved ∙ ap (take 7) (octets_of b c d e f g h 0 s_b s_c s_d s_e s_f s_g s_h z) ∙ sym (ap decimal number_is ∙ d7))

-- where 8 digits count
front_8 : (word number a b c d e f g h : ℕ) → word ≡ eight_lanes a b c d e f g h → number ≡ (((((((a * 10 + b) * 10 + c) * 10 + d) * 10 + e) * 10 + f) * 10 + g) * 10 + h) → 0 < a → a < 10 → b < 10 → c < 10 → d < 10 → e < 10 → f < 10 → g < 10 → h < 10 → IsFront word number
front_8 word number a b c d e f g h word_is number_is some s_a s_b s_c s_d s_e s_f s_g s_h =
    let marked : word + 72057594037927936 ≡ eight_lanes a b c d e f g (h + 1) * 1 + 0 = omega (arith, word_is) in
    let zeros : zeros_of word ≡ 0 = zeros_are 0 (eight_lanes a b c d e f g (h + 1)) (word + 72057594037927936) marked (omega (arith, some, s_a, s_b, s_c, s_d, s_e, s_f, s_g, s_h)) (omega arith) (omega (arith, word_is, s_a, s_b, s_c, s_d, s_e, s_f, s_g, s_h)) in
    let moved : word / 1 ≡ eight_lanes a b c d e f g h = omega (arith, word_is, s_a, s_b, s_c, s_d, s_e, s_f, s_g, s_h) in
    let d1 : decimal a ≡ (48 + a) ∷ [] = decimal_digit a s_a in
    let d2 : decimal (a * 10 + b) ≡ (48 + a) ∷ (48 + b) ∷ [] = append_digit a b (omega (arith, some)) s_b (omega (arith, s_a)) ∙ ap (λ l. l ++ ((48 + b) ∷ [])) d1 in
    let d3 : decimal ((a * 10 + b) * 10 + c) ≡ (48 + a) ∷ (48 + b) ∷ (48 + c) ∷ [] = append_digit (a * 10 + b) c (omega (arith, some)) s_c (omega (arith, s_a, s_b)) ∙ ap (λ l. l ++ ((48 + c) ∷ [])) d2 in
    let d4 : decimal (((a * 10 + b) * 10 + c) * 10 + d) ≡ (48 + a) ∷ (48 + b) ∷ (48 + c) ∷ (48 + d) ∷ [] = append_digit ((a * 10 + b) * 10 + c) d (omega (arith, some)) s_d (omega (arith, s_a, s_b, s_c)) ∙ ap (λ l. l ++ ((48 + d) ∷ [])) d3 in
    let d5 : decimal ((((a * 10 + b) * 10 + c) * 10 + d) * 10 + e) ≡ (48 + a) ∷ (48 + b) ∷ (48 + c) ∷ (48 + d) ∷ (48 + e) ∷ [] = append_digit (((a * 10 + b) * 10 + c) * 10 + d) e (omega (arith, some)) s_e (omega (arith, s_a, s_b, s_c, s_d)) ∙ ap (λ l. l ++ ((48 + e) ∷ [])) d4 in
    let d6 : decimal (((((a * 10 + b) * 10 + c) * 10 + d) * 10 + e) * 10 + f) ≡ (48 + a) ∷ (48 + b) ∷ (48 + c) ∷ (48 + d) ∷ (48 + e) ∷ (48 + f) ∷ [] = append_digit ((((a * 10 + b) * 10 + c) * 10 + d) * 10 + e) f (omega (arith, some)) s_f (omega (arith, s_a, s_b, s_c, s_d, s_e)) ∙ ap (λ l. l ++ ((48 + f) ∷ [])) d5 in
    let d7 : decimal ((((((a * 10 + b) * 10 + c) * 10 + d) * 10 + e) * 10 + f) * 10 + g) ≡ (48 + a) ∷ (48 + b) ∷ (48 + c) ∷ (48 + d) ∷ (48 + e) ∷ (48 + f) ∷ (48 + g) ∷ [] = append_digit (((((a * 10 + b) * 10 + c) * 10 + d) * 10 + e) * 10 + f) g (omega (arith, some)) s_g (omega (arith, s_a, s_b, s_c, s_d, s_e, s_f)) ∙ ap (λ l. l ++ ((48 + g) ∷ [])) d6 in
    let d8 : decimal (((((((a * 10 + b) * 10 + c) * 10 + d) * 10 + e) * 10 + f) * 10 + g) * 10 + h) ≡ (48 + a) ∷ (48 + b) ∷ (48 + c) ∷ (48 + d) ∷ (48 + e) ∷ (48 + f) ∷ (48 + g) ∷ (48 + h) ∷ [] = append_digit ((((((a * 10 + b) * 10 + c) * 10 + d) * 10 + e) * 10 + f) * 10 + g) h (omega (arith, some)) s_h (omega (arith, s_a, s_b, s_c, s_d, s_e, s_f, s_g)) ∙ ap (λ l. l ++ ((48 + h) ∷ [])) d7 in
    front_with 0 word number zeros (ap (λ x. take 8 (to_le_bytes w64 (x + 3472328296227680304))) moved ∙ ap (take 8) (octets_of a b c d e f g h s_a s_b s_c s_d s_e s_f s_g s_h) ∙ sym (ap decimal number_is ∙ d8))

-- by the first digit that isn't 0
front_of : (word number a b c d e f g h : ℕ) → word ≡ eight_lanes a b c d e f g h → number ≡ (((((((a * 10 + b) * 10 + c) * 10 + d) * 10 + e) * 10 + f) * 10 + g) * 10 + h) → a < 10 → b < 10 → c < 10 → d < 10 → e < 10 → f < 10 → g < 10 → h < 10 → IsFront word number
front_of word number (suc a) b c d e f g h word_is number_is s_a s_b s_c s_d s_e s_f s_g s_h = front_8 word number (suc a) b c d e f g h (omega (arith, word_is)) (omega (arith, number_is)) (omega arith) s_a s_b s_c s_d s_e s_f s_g s_h
front_of word number zero (suc b) c d e f g h word_is number_is s_a s_b s_c s_d s_e s_f s_g s_h = front_7 word number (suc b) c d e f g h (omega (arith, word_is)) (omega (arith, number_is)) (omega arith) s_b s_c s_d s_e s_f s_g s_h
front_of word number zero zero (suc c) d e f g h word_is number_is s_a s_b s_c s_d s_e s_f s_g s_h = front_6 word number (suc c) d e f g h (omega (arith, word_is)) (omega (arith, number_is)) (omega arith) s_c s_d s_e s_f s_g s_h
front_of word number zero zero zero (suc d) e f g h word_is number_is s_a s_b s_c s_d s_e s_f s_g s_h = front_5 word number (suc d) e f g h (omega (arith, word_is)) (omega (arith, number_is)) (omega arith) s_d s_e s_f s_g s_h
front_of word number zero zero zero zero (suc e) f g h word_is number_is s_a s_b s_c s_d s_e s_f s_g s_h = front_4 word number (suc e) f g h (omega (arith, word_is)) (omega (arith, number_is)) (omega arith) s_e s_f s_g s_h
front_of word number zero zero zero zero zero (suc f) g h word_is number_is s_a s_b s_c s_d s_e s_f s_g s_h = front_3 word number (suc f) g h (omega (arith, word_is)) (omega (arith, number_is)) (omega arith) s_f s_g s_h
front_of word number zero zero zero zero zero zero (suc g) h word_is number_is s_a s_b s_c s_d s_e s_f s_g s_h = front_2 word number (suc g) h (omega (arith, word_is)) (omega (arith, number_is)) (omega arith) s_g s_h
front_of word number zero zero zero zero zero zero zero h word_is number_is s_a s_b s_c s_d s_e s_f s_g s_h = front_1 word number h (omega (arith, word_is)) (omega (arith, number_is)) s_h

pub front_text : (number : ℕ) → number < 100000000 → IsFront (digit_word number) number
front_text number small =
    front_of (digit_word number) number (number / 10000000 % 10) (number / 1000000 % 10) (number / 100000 % 10) (number / 10000 % 10) (number / 1000 % 10) (number / 100 % 10) (number / 10 % 10) (number % 10)
    (omega arith) (omega (arith, small)) (omega arith) (omega arith) (omega arith) (omega arith) (omega arith) (omega arith) (omega arith) (omega arith)
