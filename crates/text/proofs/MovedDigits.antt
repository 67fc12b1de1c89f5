-- Digits that are moved to the end of a word.
use Rattle.std.proofs.Common.{◌≡◌, ◌<◌, ◌≤◌, ℕ, ◌+◌, ◌-◌, ◌*◌, ◌%◌, ◌^◌, zero, suc, true, List, [], ◌∷◌, ◌++◌, length, take, replicate, Some, refl, sym, ap, ◌∙◌, subst, arith}
use Rattle.std.specs.List.{list_all}
use Rattle.std.specs.Int.{from_le_bytes, w64}
use Rattle.text.specs.Numbers.{is_digit, value_behind}
use Rattle.text.proofs.JoinedLaws.{and_first, and_second}
use Rattle.text.proofs.EightDigits.{Digits, Eight, all_fours, decimal_in, digit_above, digit_on, digit_small, eight, quick_is, quick_joined, word_in, word_of}

-- digits, and the word that has them in its last octets, and zeros before them
pub record Moved (front : List ℕ) (ones : ℕ) : Type 0 where
  pub digits : Digits
  pub ones_is : ones ≡ word_in digits
  pub value : value_behind 10 0 front ≡ Some (decimal_in digits)

zeros_first : (n : ℕ) (xs : List ℕ) → value_behind 10 0 (replicate n 48 ++ xs) ≡ value_behind 10 0 xs
zeros_first zero xs = refl
zeros_first (suc n) xs = digit_on 0 48 (replicate n 48 ++ xs) refl ∙ zeros_first n xs

-- the octets before which zeros are put, as eight digits
moved_by : (n word ones : ℕ) (xs : List ℕ) → (x : Eight (replicate n 48 ++ xs) word) → ones ≡ word_in x.digits → Moved xs ones
moved_by n word ones xs x is = record { digits = x.digits; ones_is = is; value = sym (zeros_first n xs) ∙ x.value }

cut_1 : (front behind all : ℕ) → front < 256 → all ≡ (front + 256 * behind) % 18446744073709551616 → all * 72057594037927936 % 18446744073709551616 ≡ front * 72057594037927936
cut_1 front behind all small is = omega (arith, is, small)

-- where 1 of them are digits
moved_1 : (d0 rest all : ℕ) → all ≡ ((48 + d0) + 256 * (rest) + 14974415777481871312) % 18446744073709551616 → d0 < 10
    → all * 72057594037927936 % 18446744073709551616 ≡ word_of 0 0 0 0 0 0 0 d0
moved_1 d0 rest all is s0 =
    let front : ℕ = d0 in
    let behind : ℕ = rest + 58493811630788560 in
    let sum : (48 + d0) + 256 * (rest) + 14974415777481871312 ≡ front + 256 * behind = omega arith in
    let small : front < 256 = omega arith in
    let part : all ≡ (front + 256 * behind) % 18446744073709551616 = is ∙ ap (λ n. n % 18446744073709551616) sum in
    let same : all * 72057594037927936 % 18446744073709551616 ≡ front * 72057594037927936 = cut_1 front behind all small part in
    omega (arith, same)

cut_2 : (front behind all : ℕ) → front < 65536 → all ≡ (front + 65536 * behind) % 18446744073709551616 → all * 281474976710656 % 18446744073709551616 ≡ front * 281474976710656
cut_2 front behind all small is = omega (arith, is, small)

-- where 2 of them are digits
moved_2 : (d0 d1 rest all : ℕ) → all ≡ ((48 + d0) + 256 * ((48 + d1) + 256 * (rest)) + 14974415777481871312) % 18446744073709551616 → d0 < 10 → d1 < 10
    → all * 281474976710656 % 18446744073709551616 ≡ word_of 0 0 0 0 0 0 d0 d1
moved_2 d0 d1 rest all is s0 s1 =
    let front : ℕ = d0 + 256 * (d1) in
    let behind : ℕ = rest + 228491451682768 in
    let sum : (48 + d0) + 256 * ((48 + d1) + 256 * (rest)) + 14974415777481871312 ≡ front + 65536 * behind = omega arith in
    let small : front < 65536 = omega arith in
    let part : all ≡ (front + 65536 * behind) % 18446744073709551616 = is ∙ ap (λ n. n % 18446744073709551616) sum in
    let same : all * 281474976710656 % 18446744073709551616 ≡ front * 281474976710656 = cut_2 front behind all small part in
    omega (arith, same)

cut_3 : (front behind all : ℕ) → front < 16777216 → all ≡ (front + 16777216 * behind) % 18446744073709551616 → all * 1099511627776 % 18446744073709551616 ≡ front * 1099511627776
cut_3 front behind all small is = omega (arith, is, small)

-- where 3 of them are digits
moved_3 : (d0 d1 d2 rest all : ℕ) → all ≡ ((48 + d0) + 256 * ((48 + d1) + 256 * ((48 + d2) + 256 * (rest))) + 14974415777481871312) % 18446744073709551616 → d0 < 10 → d1 < 10 → d2 < 10
    → all * 1099511627776 % 18446744073709551616 ≡ word_of 0 0 0 0 0 d0 d1 d2
moved_3 d0 d1 d2 rest all is s0 s1 s2 =
    let front : ℕ = d0 + 256 * (d1 + 256 * (d2)) in
    let behind : ℕ = rest + 892544733136 in
    let sum : (48 + d0) + 256 * ((48 + d1) + 256 * ((48 + d2) + 256 * (rest))) + 14974415777481871312 ≡ front + 16777216 * behind = omega arith in
    let small : front < 16777216 = omega arith in
    let part : all ≡ (front + 16777216 * behind) % 18446744073709551616 = is ∙ ap (λ n. n % 18446744073709551616) sum in
    let same : all * 1099511627776 % 18446744073709551616 ≡ front * 1099511627776 = cut_3 front behind all small part in
    omega (arith, same)

cut_4 : (front behind all : ℕ) → front < 4294967296 → all ≡ (front + 4294967296 * behind) % 18446744073709551616 → all * 4294967296 % 18446744073709551616 ≡ front * 4294967296
cut_4 front behind all small is = omega (arith, is, small)

-- where 4 of them are digits
moved_4 : (d0 d1 d2 d3 rest all : ℕ) → all ≡ ((48 + d0) + 256 * ((48 + d1) + 256 * ((48 + d2) + 256 * ((48 + d3) + 256 * (rest)))) + 14974415777481871312) % 18446744073709551616 → d0 < 10 → d1 < 10 → d2 < 10 → d3 < 10
    → all * 4294967296 % 18446744073709551616 ≡ word_of 0 0 0 0 d0 d1 d2 d3
moved_4 d0 d1 d2 d3 rest all is s0 s1 s2 s3 =
    let front : ℕ = d0 + 256 * (d1 + 256 * (d2 + 256 * (d3))) in
    let behind : ℕ = rest + 3486502864 in
    let sum : (48 + d0) + 256 * ((48 + d1) + 256 * ((48 + d2) + 256 * ((48 + d3) + 256 * (rest)))) + 14974415777481871312 ≡ front + 4294967296 * behind = omega arith in
    let small : front < 4294967296 = omega arith in
    let part : all ≡ (front + 4294967296 * behind) % 18446744073709551616 = is ∙ ap (λ n. n % 18446744073709551616) sum in
    let same : all * 4294967296 % 18446744073709551616 ≡ front * 4294967296 = cut_4 front behind all small part in
    omega (arith, same)

cut_5 : (front behind all : ℕ) → front < 1099511627776 → all ≡ (front + 1099511627776 * behind) % 18446744073709551616 → all * 16777216 % 18446744073709551616 ≡ front * 16777216
cut_5 front behind all small is = omega (arith, is, small)

-- where 5 of them are digits
moved_5 : (d0 d1 d2 d3 d4 rest all : ℕ) → all ≡ ((48 + d0) + 256 * ((48 + d1) + 256 * ((48 + d2) + 256 * ((48 + d3) + 256 * ((48 + d4) + 256 * (rest))))) + 14974415777481871312) % 18446744073709551616 → d0 < 10 → d1 < 10 → d2 < 10 → d3 < 10 → d4 < 10
    → all * 16777216 % 18446744073709551616 ≡ word_of 0 0 0 d0 d1 d2 d3 d4
moved_5 d0 d1 d2 d3 d4 rest all is s0 s1 s2 s3 s4 =
    let front : ℕ = d0 + 256 * (d1 + 256 * (d2 + 256 * (d3 + 256 * (d4)))) in
    let behind : ℕ = rest + 13619152 in
    let sum : (48 + d0) + 256 * ((48 + d1) + 256 * ((48 + d2) + 256 * ((48 + d3) + 256 * ((48 + d4) + 256 * (rest))))) + 14974415777481871312 ≡ front + 1099511627776 * behind = omega arith in
    let small : front < 1099511627776 = omega arith in
    let part : all ≡ (front + 1099511627776 * behind) % 18446744073709551616 = is ∙ ap (λ n. n % 18446744073709551616) sum in
    let same : all * 16777216 % 18446744073709551616 ≡ front * 16777216 = cut_5 front behind all small part in
    omega (arith, same)

cut_6 : (front behind all : ℕ) → front < 281474976710656 → all ≡ (front + 281474976710656 * behind) % 18446744073709551616 → all * 65536 % 18446744073709551616 ≡ front * 65536
cut_6 front behind all small is = omega (arith, is, small)

-- where 6 of them are digits
moved_6 : (d0 d1 d2 d3 d4 d5 rest all : ℕ) → all ≡ ((48 + d0) + 256 * ((48 + d1) + 256 * ((48 + d2) + 256 * ((48 + d3) + 256 * ((48 + d4) + 256 * ((48 + d5) + 256 * (rest)))))) + 14974415777481871312) % 18446744073709551616 → d0 < 10 → d1 < 10 → d2 < 10 → d3 < 10 → d4 < 10 → d5 < 10
    → all * 65536 % 18446744073709551616 ≡ word_of 0 0 d0 d1 d2 d3 d4 d5
moved_6 d0 d1 d2 d3 d4 d5 rest all is s0 s1 s2 s3 s4 s5 =
    let front : ℕ = d0 + 256 * (d1 + 256 * (d2 + 256 * (d3 + 256 * (d4 + 256 * (d5))))) in
    let behind : ℕ = rest + 53200 in
    let sum : (48 + d0) + 256 * ((48 + d1) + 256 * ((48 + d2) + 256 * ((48 + d3) + 256 * ((48 + d4) + 256 * ((48 + d5) + 256 * (rest)))))) + 14974415777481871312 ≡ front + 281474976710656 * behind = omega arith in
    let small : front < 281474976710656 = omega arith in
    let part : all ≡ (front + 281474976710656 * behind) % 18446744073709551616 = is ∙ ap (λ n. n % 18446744073709551616) sum in
    let same : all * 65536 % 18446744073709551616 ≡ front * 65536 = cut_6 front behind all small part in
    omega (arith, same)

cut_7 : (front behind all : ℕ) → front < 72057594037927936 → all ≡ (front + 72057594037927936 * behind) % 18446744073709551616 → all * 256 % 18446744073709551616 ≡ front * 256
cut_7 front behind all small is = omega (arith, is, small)

-- where 7 of them are digits
moved_7 : (d0 d1 d2 d3 d4 d5 d6 rest all : ℕ) → all ≡ ((48 + d0) + 256 * ((48 + d1) + 256 * ((48 + d2) + 256 * ((48 + d3) + 256 * ((48 + d4) + 256 * ((48 + d5) + 256 * ((48 + d6) + 256 * (rest))))))) + 14974415777481871312) % 18446744073709551616 → d0 < 10 → d1 < 10 → d2 < 10 → d3 < 10 → d4 < 10 → d5 < 10 → d6 < 10
    → all * 256 % 18446744073709551616 ≡ word_of 0 d0 d1 d2 d3 d4 d5 d6
moved_7 d0 d1 d2 d3 d4 d5 d6 rest all is s0 s1 s2 s3 s4 s5 s6 =
    let front : ℕ = d0 + 256 * (d1 + 256 * (d2 + 256 * (d3 + 256 * (d4 + 256 * (d5 + 256 * (d6)))))) in
    let behind : ℕ = rest + 208 in
    let sum : (48 + d0) + 256 * ((48 + d1) + 256 * ((48 + d2) + 256 * ((48 + d3) + 256 * ((48 + d4) + 256 * ((48 + d5) + 256 * ((48 + d6) + 256 * (rest))))))) + 14974415777481871312 ≡ front + 72057594037927936 * behind = omega arith in
    let small : front < 72057594037927936 = omega arith in
    let part : all ≡ (front + 72057594037927936 * behind) % 18446744073709551616 = is ∙ ap (λ n. n % 18446744073709551616) sum in
    let same : all * 256 % 18446744073709551616 ≡ front * 256 = cut_7 front behind all small part in
    omega (arith, same)

cut_8 : (front behind all : ℕ) → front < 18446744073709551616 → all ≡ (front + 18446744073709551616 * behind) % 18446744073709551616 → all * 1 % 18446744073709551616 ≡ front * 1
cut_8 front behind all small is = omega (arith, is, small)

-- where 8 of them are digits
moved_8 : (d0 d1 d2 d3 d4 d5 d6 d7 rest all : ℕ) → all ≡ ((48 + d0) + 256 * ((48 + d1) + 256 * ((48 + d2) + 256 * ((48 + d3) + 256 * ((48 + d4) + 256 * ((48 + d5) + 256 * ((48 + d6) + 256 * ((48 + d7)))))))) + 14974415777481871312) % 18446744073709551616 → d0 < 10 → d1 < 10 → d2 < 10 → d3 < 10 → d4 < 10 → d5 < 10 → d6 < 10 → d7 < 10
    → all * 1 % 18446744073709551616 ≡ word_of d0 d1 d2 d3 d4 d5 d6 d7
moved_8 d0 d1 d2 d3 d4 d5 d6 d7 rest all is s0 s1 s2 s3 s4 s5 s6 s7 =
    let front : ℕ = d0 + 256 * (d1 + 256 * (d2 + 256 * (d3 + 256 * (d4 + 256 * (d5 + 256 * (d6 + 256 * (d7))))))) in
    let behind : ℕ = 1 in
    let sum : (48 + d0) + 256 * ((48 + d1) + 256 * ((48 + d2) + 256 * ((48 + d3) + 256 * ((48 + d4) + 256 * ((48 + d5) + 256 * ((48 + d6) + 256 * ((48 + d7)))))))) + 14974415777481871312 ≡ front + 18446744073709551616 * behind = omega arith in
    let small : front < 18446744073709551616 = omega arith in
    let part : all ≡ (front + 18446744073709551616 * behind) % 18446744073709551616 = is ∙ ap (λ n. n % 18446744073709551616) sum in
    let same : all * 1 % 18446744073709551616 ≡ front * 1 = cut_8 front behind all small part in
    omega (arith, same)

pub moved : (octets : List ℕ) (count all : ℕ) → length octets ≡ 8 → 0 < count → count ≤ 8 → list_all is_digit (take count octets) ≡ true
    → all ≡ (from_le_bytes w64 octets + (2 ^ 64 - 3472328296227680304)) % 2 ^ 64 → Moved (take count octets) (all * 2 ^ (64 - 8 * count) % 2 ^ 64)
unfolding eight
moved (a ∷ b ∷ c ∷ d ∷ e ∷ f ∷ g ∷ h ∷ []) zero all long some few digits is = absurd (omega arith)
moved (a ∷ b ∷ c ∷ d ∷ e ∷ f ∷ g ∷ h ∷ []) (suc zero) all long some few digits is =
    let i0 = and_first _ _ digits in
    let whole : from_le_bytes w64 (a ∷ b ∷ c ∷ d ∷ e ∷ f ∷ g ∷ h ∷ []) ≡ (48 + (a - 48)) + 256 * ((b + 256 * (c + 256 * (d + 256 * (e + 256 * (f + 256 * (g + 256 * (h)))))))) = omega (arith, digit_above a i0) in
    let part = is ∙ ap (λ n. (n + 14974415777481871312) % 18446744073709551616) whole in
    moved_by 7 _ _ (a ∷ []) (eight (48 ∷ 48 ∷ 48 ∷ 48 ∷ 48 ∷ 48 ∷ 48 ∷ a ∷ []) refl digits) (moved_1 (a - 48) (b + 256 * (c + 256 * (d + 256 * (e + 256 * (f + 256 * (g + 256 * (h))))))) all part (digit_small a i0))
moved (a ∷ b ∷ c ∷ d ∷ e ∷ f ∷ g ∷ h ∷ []) (suc (suc zero)) all long some few digits is =
    let i0 = and_first _ _ digits in
    let r0 = and_second _ _ digits in
    let i1 = and_first _ _ r0 in
    let whole : from_le_bytes w64 (a ∷ b ∷ c ∷ d ∷ e ∷ f ∷ g ∷ h ∷ []) ≡ (48 + (a - 48)) + 256 * ((48 + (b - 48)) + 256 * ((c + 256 * (d + 256 * (e + 256 * (f + 256 * (g + 256 * (h)))))))) = omega (arith, digit_above a i0, digit_above b i1) in
    let part = is ∙ ap (λ n. (n + 14974415777481871312) % 18446744073709551616) whole in
    moved_by 6 _ _ (a ∷ b ∷ []) (eight (48 ∷ 48 ∷ 48 ∷ 48 ∷ 48 ∷ 48 ∷ a ∷ b ∷ []) refl digits) (moved_2 (a - 48) (b - 48) (c + 256 * (d + 256 * (e + 256 * (f + 256 * (g + 256 * (h)))))) all part (digit_small a i0) (digit_small b i1))
moved (a ∷ b ∷ c ∷ d ∷ e ∷ f ∷ g ∷ h ∷ []) (suc (suc (suc zero))) all long some few digits is =
    let i0 = and_first _ _ digits in
    let r0 = and_second _ _ digits in
    let i1 = and_first _ _ r0 in
    let r1 = and_second _ _ r0 in
    let i2 = and_first _ _ r1 in
    let whole : from_le_bytes w64 (a ∷ b ∷ c ∷ d ∷ e ∷ f ∷ g ∷ h ∷ []) ≡ (48 + (a - 48)) + 256 * ((48 + (b - 48)) + 256 * ((48 + (c - 48)) + 256 * ((d + 256 * (e + 256 * (f + 256 * (g + 256 * (h)))))))) = omega (arith, digit_above a i0, digit_above b i1, digit_above c i2) in
    let part = is ∙ ap (λ n. (n + 14974415777481871312) % 18446744073709551616) whole in
    moved_by 5 _ _ (a ∷ b ∷ c ∷ []) (eight (48 ∷ 48 ∷ 48 ∷ 48 ∷ 48 ∷ a ∷ b ∷ c ∷ []) refl digits) (moved_3 (a - 48) (b - 48) (c - 48) (d + 256 * (e + 256 * (f + 256 * (g + 256 * (h))))) all part (digit_small a i0) (digit_small b i1) (digit_small c i2))
moved (a ∷ b ∷ c ∷ d ∷ e ∷ f ∷ g ∷ h ∷ []) (suc (suc (suc (suc zero)))) all long some few digits is =
    let i0 = and_first _ _ digits in
    let r0 = and_second _ _ digits in
    let i1 = and_first _ _ r0 in
    let r1 = and_second _ _ r0 in
    let i2 = and_first _ _ r1 in
    let r2 = and_second _ _ r1 in
    let i3 = and_first _ _ r2 in
    let whole : from_le_bytes w64 (a ∷ b ∷ c ∷ d ∷ e ∷ f ∷ g ∷ h ∷ []) ≡ (48 + (a - 48)) + 256 * ((48 + (b - 48)) + 256 * ((48 + (c - 48)) + 256 * ((48 + (d - 48)) + 256 * ((e + 256 * (f + 256 * (g + 256 * (h)))))))) = omega (arith, digit_above a i0, digit_above b i1, digit_above c i2, digit_above d i3) in
    let part = is ∙ ap (λ n. (n + 14974415777481871312) % 18446744073709551616) whole in
    moved_by 4 _ _ (a ∷ b ∷ c ∷ d ∷ []) (eight (48 ∷ 48 ∷ 48 ∷ 48 ∷ a ∷ b ∷ c ∷ d ∷ []) refl digits) (moved_4 (a - 48) (b - 48) (c - 48) (d - 48) (e + 256 * (f + 256 * (g + 256 * (h)))) all part (digit_small a i0) (digit_small b i1) (digit_small c i2) (digit_small d i3))
moved (a ∷ b ∷ c ∷ d ∷ e ∷ f ∷ g ∷ h ∷ []) (suc (suc (suc (suc (suc zero))))) all long some few digits is =
    let i0 = and_first _ _ digits in
    let r0 = and_second _ _ digits in
    let i1 = and_first _ _ r0 in
    let r1 = and_second _ _ r0 in
    let i2 = and_first _ _ r1 in
    let r2 = and_second _ _ r1 in
    let i3 = and_first _ _ r2 in
    let r3 = and_second _ _ r2 in
    let i4 = and_first _ _ r3 in
    let whole : from_le_bytes w64 (a ∷ b ∷ c ∷ d ∷ e ∷ f ∷ g ∷ h ∷ []) ≡ (48 + (a - 48)) + 256 * ((48 + (b - 48)) + 256 * ((48 + (c - 48)) + 256 * ((48 + (d - 48)) + 256 * ((48 + (e - 48)) + 256 * ((f + 256 * (g + 256 * (h)))))))) = omega (arith, digit_above a i0, digit_above b i1, digit_above c i2, digit_above d i3, digit_above e i4) in
    let part = is ∙ ap (λ n. (n + 14974415777481871312) % 18446744073709551616) whole in
    moved_by 3 _ _ (a ∷ b ∷ c ∷ d ∷ e ∷ []) (eight (48 ∷ 48 ∷ 48 ∷ a ∷ b ∷ c ∷ d ∷ e ∷ []) refl digits) (moved_5 (a - 48) (b - 48) (c - 48) (d - 48) (e - 48) (f + 256 * (g + 256 * (h))) all part (digit_small a i0) (digit_small b i1) (digit_small c i2) (digit_small d i3) (digit_small e i4))
moved (a ∷ b ∷ c ∷ d ∷ e ∷ f ∷ g ∷ h ∷ []) (suc (suc (suc (suc (suc (suc zero)))))) all long some few digits is =
    let i0 = and_first _ _ digits in
    let r0 = and_second _ _ digits in
    let i1 = and_first _ _ r0 in
    let r1 = and_second _ _ r0 in
    let i2 = and_first _ _ r1 in
    let r2 = and_second _ _ r1 in
    let i3 = and_first _ _ r2 in
    let r3 = and_second _ _ r2 in
    let i4 = and_first _ _ r3 in
    let r4 = and_second _ _ r3 in
    let i5 = and_first _ _ r4 in
    let whole : from_le_bytes w64 (a ∷ b ∷ c ∷ d ∷ e ∷ f ∷ g ∷ h ∷ []) ≡ (48 + (a - 48)) + 256 * ((48 + (b - 48)) + 256 * ((48 + (c - 48)) + 256 * ((48 + (d - 48)) + 256 * ((48 + (e - 48)) + 256 * ((48 + (f - 48)) + 256 * ((g + 256 * (h)))))))) = omega (arith, digit_above a i0, digit_above b i1, digit_above c i2, digit_above d i3, digit_above e i4, digit_above f i5) in
    let part = is ∙ ap (λ n. (n + 14974415777481871312) % 18446744073709551616) whole in
    moved_by 2 _ _ (a ∷ b ∷ c ∷ d ∷ e ∷ f ∷ []) (eight (48 ∷ 48 ∷ a ∷ b ∷ c ∷ d ∷ e ∷ f ∷ []) refl digits) (moved_6 (a - 48) (b - 48) (c - 48) (d - 48) (e - 48) (f - 48) (g + 256 * (h)) all part (digit_small a i0) (digit_small b i1) (digit_small c i2) (digit_small d i3) (digit_small e i4) (digit_small f i5))
moved (a ∷ b ∷ c ∷ d ∷ e ∷ f ∷ g ∷ h ∷ []) (suc (suc (suc (suc (suc (suc (suc zero))))))) all long some few digits is =
    let i0 = and_first _ _ digits in
    let r0 = and_second _ _ digits in
    let i1 = and_first _ _ r0 in
    let r1 = and_second _ _ r0 in
    let i2 = and_first _ _ r1 in
    let r2 = and_second _ _ r1 in
    let i3 = and_first _ _ r2 in
    let r3 = and_second _ _ r2 in
    let i4 = and_first _ _ r3 in
    let r4 = and_second _ _ r3 in
    let i5 = and_first _ _ r4 in
    let r5 = and_second _ _ r4 in
    let i6 = and_first _ _ r5 in
    let whole : from_le_bytes w64 (a ∷ b ∷ c ∷ d ∷ e ∷ f ∷ g ∷ h ∷ []) ≡ (48 + (a - 48)) + 256 * ((48 + (b - 48)) + 256 * ((48 + (c - 48)) + 256 * ((48 + (d - 48)) + 256 * ((48 + (e - 48)) + 256 * ((48 + (f - 48)) + 256 * ((48 + (g - 48)) + 256 * ((h)))))))) = omega (arith, digit_above a i0, digit_above b i1, digit_above c i2, digit_above d i3, digit_above e i4, digit_above f i5, digit_above g i6) in
    let part = is ∙ ap (λ n. (n + 14974415777481871312) % 18446744073709551616) whole in
    moved_by 1 _ _ (a ∷ b ∷ c ∷ d ∷ e ∷ f ∷ g ∷ []) (eight (48 ∷ a ∷ b ∷ c ∷ d ∷ e ∷ f ∷ g ∷ []) refl digits) (moved_7 (a - 48) (b - 48) (c - 48) (d - 48) (e - 48) (f - 48) (g - 48) (h) all part (digit_small a i0) (digit_small b i1) (digit_small c i2) (digit_small d i3) (digit_small e i4) (digit_small f i5) (digit_small g i6))
moved (a ∷ b ∷ c ∷ d ∷ e ∷ f ∷ g ∷ h ∷ []) (suc (suc (suc (suc (suc (suc (suc (suc zero)))))))) all long some few digits is =
    let i0 = and_first _ _ digits in
    let r0 = and_second _ _ digits in
    let i1 = and_first _ _ r0 in
    let r1 = and_second _ _ r0 in
    let i2 = and_first _ _ r1 in
    let r2 = and_second _ _ r1 in
    let i3 = and_first _ _ r2 in
    let r3 = and_second _ _ r2 in
    let i4 = and_first _ _ r3 in
    let r4 = and_second _ _ r3 in
    let i5 = and_first _ _ r4 in
    let r5 = and_second _ _ r4 in
    let i6 = and_first _ _ r5 in
    let r6 = and_second _ _ r5 in
    let i7 = and_first _ _ r6 in
    let whole : from_le_bytes w64 (a ∷ b ∷ c ∷ d ∷ e ∷ f ∷ g ∷ h ∷ []) ≡ (48 + (a - 48)) + 256 * ((48 + (b - 48)) + 256 * ((48 + (c - 48)) + 256 * ((48 + (d - 48)) + 256 * ((48 + (e - 48)) + 256 * ((48 + (f - 48)) + 256 * ((48 + (g - 48)) + 256 * ((48 + (h - 48))))))))) = omega (arith, digit_above a i0, digit_above b i1, digit_above c i2, digit_above d i3, digit_above e i4, digit_above f i5, digit_above g i6, digit_above h i7) in
    let part = is ∙ ap (λ n. (n + 14974415777481871312) % 18446744073709551616) whole in
    moved_by 0 _ _ (a ∷ b ∷ c ∷ d ∷ e ∷ f ∷ g ∷ h ∷ []) (eight (a ∷ b ∷ c ∷ d ∷ e ∷ f ∷ g ∷ h ∷ []) refl digits) (moved_8 (a - 48) (b - 48) (c - 48) (d - 48) (e - 48) (f - 48) (g - 48) (h - 48) (0) all part (digit_small a i0) (digit_small b i1) (digit_small c i2) (digit_small d i3) (digit_small e i4) (digit_small f i5) (digit_small g i6) (digit_small h i7))
moved (a ∷ b ∷ c ∷ d ∷ e ∷ f ∷ g ∷ h ∷ []) (suc (suc (suc (suc (suc (suc (suc (suc (suc n))))))))) all long some few digits is = absurd (omega arith)
moved [] count all long some few digits is = absurd (omega arith)
moved (a ∷ []) count all long some few digits is = absurd (omega arith)
moved (a ∷ b ∷ []) count all long some few digits is = absurd (omega arith)
moved (a ∷ b ∷ c ∷ []) count all long some few digits is = absurd (omega arith)
moved (a ∷ b ∷ c ∷ d ∷ []) count all long some few digits is = absurd (omega arith)
moved (a ∷ b ∷ c ∷ d ∷ e ∷ []) count all long some few digits is = absurd (omega arith)
moved (a ∷ b ∷ c ∷ d ∷ e ∷ f ∷ []) count all long some few digits is = absurd (omega arith)
moved (a ∷ b ∷ c ∷ d ∷ e ∷ f ∷ g ∷ []) count all long some few digits is = absurd (omega arith)
moved (a ∷ b ∷ c ∷ d ∷ e ∷ f ∷ g ∷ h ∷ i ∷ is_) count all long some few digits is = absurd (omega arith)

-- the word of so many digits that are moved
abbrev pub ones : ℕ → ℕ → ℕ
ones word count = (word + (2 ^ 64 - 3472328296227680304)) % 2 ^ 64 * 2 ^ (64 - 8 * count) % 2 ^ 64

pub moved_word : (octets : List ℕ) (count word : ℕ) → length octets ≡ 8 → 0 < count → count ≤ 8 → list_all is_digit (take count octets) ≡ true → word ≡ from_le_bytes w64 octets → Moved (take count octets) (ones word count)
moved_word octets count word long some few digits is =
    moved octets count ((word + (2 ^ 64 - 3472328296227680304)) % 2 ^ 64) long some few digits (ap (λ n. (n + (2 ^ 64 - 3472328296227680304)) % 2 ^ 64) is)

-- neighbours that are put together are the number
joined_in : (front : List ℕ) (n : ℕ) (x : Moved front n) → quick_joined n ≡ decimal_in x.digits
joined_in front n x =
    let d = x.digits in
    quick_is n ∙ all_fours d.a d.b d.c d.d d.e d.f d.g d.h n d.small_a d.small_b d.small_c d.small_d d.small_e d.small_f d.small_g d.small_h x.ones_is

pub joined_is : (front : List ℕ) (n : ℕ) → Moved front n → value_behind 10 0 front ≡ Some (quick_joined n)
joined_is front n x = x.value ∙ ap Some (sym (joined_in front n x))

pub joined_small : (front : List ℕ) (n : ℕ) → Moved front n → quick_joined n < 10 ^ 8
joined_small front n x =
    let d = x.digits in
    let least : decimal_in d < 10 ^ 8 = omega (arith, d.small_a, d.small_b, d.small_c, d.small_d, d.small_e, d.small_f, d.small_g, d.small_h) in
    subst (λ k. k < 10 ^ 8) (sym (joined_in front n x)) least
