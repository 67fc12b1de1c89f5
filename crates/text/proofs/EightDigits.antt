-- Eight digits in a word.
use Rattle.std.proofs.Common.{◌≡◌, ◌<◌, ◌≤◌, ℕ, ◌+◌, ◌-◌, ◌*◌, ◌/◌, ◌%◌, ◌^◌, true, List, [], ◌∷◌, length, Some, refl, ap, ◌∙◌, arith}
use Rattle.std.specs.Prelude.{option_and_then}
use Rattle.std.specs.List.{list_all}
use Rattle.std.specs.Int.{from_le_bytes, w64}
use Rattle.text.specs.Numbers.{digit_in, is_digit, value_behind}
use Rattle.text.proofs.JoinedLaws.{and_first, and_second}

-- so many octets one after another, as a word has them
abbrev pub word_of : ℕ → ℕ → ℕ → ℕ → ℕ → ℕ → ℕ → ℕ → ℕ
word_of a b c d e f g h = a + 256 * (b + 256 * (c + 256 * (d + 256 * (e + 256 * (f + 256 * (g + 256 * h))))))

-- what digits stand for, the first of them counting most
abbrev pub decimal_of : ℕ → ℕ → ℕ → ℕ → ℕ → ℕ → ℕ → ℕ → ℕ
decimal_of a b c d e f g h = ((((((a * 10 + b) * 10 + c) * 10 + d) * 10 + e) * 10 + f) * 10 + g) * 10 + h

-- eight digits
pub record Digits : Type 0 where
  pub a : ℕ
  pub b : ℕ
  pub c : ℕ
  pub d : ℕ
  pub e : ℕ
  pub f : ℕ
  pub g : ℕ
  pub h : ℕ
  pub small_a : a < 10
  pub small_b : b < 10
  pub small_c : c < 10
  pub small_d : d < 10
  pub small_e : e < 10
  pub small_f : f < 10
  pub small_g : g < 10
  pub small_h : h < 10

-- their word
abbrev pub word_in : Digits → ℕ
word_in x = word_of x.a x.b x.c x.d x.e x.f x.g x.h

-- what they stand for
abbrev pub decimal_in : Digits → ℕ
decimal_in x = decimal_of x.a x.b x.c x.d x.e x.f x.g x.h

-- eight digits, and the word of their octets
pub record Eight (octets : List ℕ) (word : ℕ) : Type 0 where
  pub digits : Digits
  pub word_is : word ≡ 3472328296227680304 + word_in digits
  pub value : value_behind 10 0 octets ≡ Some (decimal_in digits)

-- a digit by its octet
digit_is : (x : ℕ) → is_digit x ≡ true → digit_in 10 x ≡ Some (x - 48)
digit_is x e = grind arith

pub digit_small : (x : ℕ) → is_digit x ≡ true → x - 48 < 10
digit_small x e = grind arith

pub digit_above : (x : ℕ) → is_digit x ≡ true → x ≡ 48 + (x - 48)
digit_above x e = let above : 48 ≤ x = grind arith in omega (arith, above)

pub word_above : (a b c d e f g h s t u v w x y z : ℕ) → a ≡ 48 + s → b ≡ 48 + t → c ≡ 48 + u → d ≡ 48 + v → e ≡ 48 + w → f ≡ 48 + x → g ≡ 48 + y → h ≡ 48 + z
    → from_le_bytes w64 (a ∷ b ∷ c ∷ d ∷ e ∷ f ∷ g ∷ h ∷ []) ≡ 3472328296227680304 + word_of s t u v w x y z
word_above a b c d e f g h s t u v w x y z ia ib ic id ie if_ ig ih = omega arith

pub digit_on : (n x : ℕ) (xs : List ℕ) → is_digit x ≡ true → value_behind 10 n (x ∷ xs) ≡ value_behind 10 (n * 10 + (x - 48)) xs
unfolding value_behind
digit_on n x xs e = ap (option_and_then (λ d. value_behind 10 (n * 10 + d) xs)) (digit_is x e)

pub digit_first : (x : ℕ) (xs : List ℕ) → is_digit x ≡ true → value_behind 10 0 (x ∷ xs) ≡ value_behind 10 (x - 48) xs
digit_first x xs e = digit_on 0 x xs e ∙ ap (λ n. value_behind 10 n xs) (omega arith)

pub no_more : (n : ℕ) → value_behind 10 n [] ≡ Some n
unfolding value_behind
no_more n = refl

unfoldable pub eight : (octets : List ℕ) → length octets ≡ 8 → list_all is_digit octets ≡ true → Eight octets (from_le_bytes w64 octets)
eight (a ∷ b ∷ c ∷ d ∷ e ∷ f ∷ g ∷ h ∷ []) long all =
    let all_b = and_second _ _ all in
    let all_c = and_second _ _ all_b in
    let all_d = and_second _ _ all_c in
    let all_e = and_second _ _ all_d in
    let all_f = and_second _ _ all_e in
    let all_g = and_second _ _ all_f in
    let all_h = and_second _ _ all_g in
    let ia = and_first _ _ all in
    let ib = and_first _ _ all_b in
    let ic = and_first _ _ all_c in
    let id = and_first _ _ all_d in
    let ie = and_first _ _ all_e in
    let if_ = and_first _ _ all_f in
    let ig = and_first _ _ all_g in
    let ih = and_first _ _ all_h in
    record {
      digits = record {
        a = a - 48;
        b = b - 48;
        c = c - 48;
        d = d - 48;
        e = e - 48;
        f = f - 48;
        g = g - 48;
        h = h - 48;
        small_a = digit_small a ia;
        small_b = digit_small b ib;
        small_c = digit_small c ic;
        small_d = digit_small d id;
        small_e = digit_small e ie;
        small_f = digit_small f if_;
        small_g = digit_small g ig;
        small_h = digit_small h ih;
      };
      word_is = word_above _ _ _ _ _ _ _ _ _ _ _ _ _ _ _ _ (digit_above a ia) (digit_above b ib) (digit_above c ic) (digit_above d id) (digit_above e ie) (digit_above f if_) (digit_above g ig) (digit_above h ih);
      value = digit_first a _ ia ∙ digit_on _ b _ ib ∙ digit_on _ c _ ic ∙ digit_on _ d _ id ∙ digit_on _ e _ ie ∙ digit_on _ f _ if_ ∙ digit_on _ g _ ig ∙ digit_on _ h _ ih ∙ no_more _;
    }
eight [] long all = absurd (omega arith)
eight (a ∷ []) long all = absurd (omega arith)
eight (a ∷ b ∷ []) long all = absurd (omega arith)
eight (a ∷ b ∷ c ∷ []) long all = absurd (omega arith)
eight (a ∷ b ∷ c ∷ d ∷ []) long all = absurd (omega arith)
eight (a ∷ b ∷ c ∷ d ∷ e ∷ []) long all = absurd (omega arith)
eight (a ∷ b ∷ c ∷ d ∷ e ∷ f ∷ []) long all = absurd (omega arith)
eight (a ∷ b ∷ c ∷ d ∷ e ∷ f ∷ g ∷ []) long all = absurd (omega arith)
eight (a ∷ b ∷ c ∷ d ∷ e ∷ f ∷ g ∷ h ∷ i ∷ is) long all = absurd (omega arith)

low : (x r n : ℕ) → x < 256 → n ≡ x + 256 * r → n % 256 ≡ x
low x r n small is = omega arith

high : (x r n : ℕ) → x < 65536 → n ≡ x + 65536 * r → n / 65536 ≡ r
high x r n small is = omega arith

higher : (x r n : ℕ) → x < 4294967296 → n ≡ x + 4294967296 * r → n / 4294967296 ≡ r
higher x r n small is = omega arith

highest : (x r n : ℕ) → x < 281474976710656 → n ≡ x + 281474976710656 * r → n / 281474976710656 ≡ r
highest x r n small is = omega arith

low_half : (x r n : ℕ) → x < 65536 → n ≡ x + 65536 * r → n % 65536 ≡ x
low_half x r n small is = omega arith

-- four pairs of digits put together two by two, of which the first and the third count
two_fours : (p q r s n : ℕ) → p < 100 → q < 100 → r < 100 → s < 100 → n ≡ p + q * 65536 + r * 4294967296 + s * 281474976710656
    → (n * 100 + n / 65536) % 65536 * 10000 + (n * 100 + n / 65536) / 4294967296 % 65536 ≡ p * 1000000 + q * 10000 + r * 100 + s
two_fours p q r s n sp sq sr ss is =
    let fours : ℕ = n * 100 + n / 65536 in
    let tail : n / 65536 ≡ q + 65536 * (r + 65536 * s) = high p (q + 65536 * (r + 65536 * s)) n (omega arith) (omega (arith, is)) in
    let both : fours ≡ (100 * p + q) + 65536 * ((100 * q + r) + 65536 * ((100 * r + s) + 65536 * (100 * s))) = omega (arith, is, tail) in
    let front : fours % 65536 ≡ 100 * p + q = low_half (100 * p + q) ((100 * q + r) + 65536 * ((100 * r + s) + 65536 * (100 * s))) fours (omega arith) both in
    let rest : fours / 4294967296 ≡ (100 * r + s) + 65536 * (100 * s) = higher ((100 * p + q) + 65536 * (100 * q + r)) ((100 * r + s) + 65536 * (100 * s)) fours (omega arith) (omega (arith, both)) in
    let back : fours / 4294967296 % 65536 ≡ 100 * r + s = low_half (100 * r + s) (100 * s) (fours / 4294967296) (omega arith) rest in
    omega (arith, front, back)

-- neighbours put together two by two, of which every second pair counts
module _ (a b c d e f g h ones : ℕ) (sa : a < 10) (sb : b < 10) (sc : c < 10) (sd : d < 10) (se : e < 10) (sf : f < 10) (sg : g < 10) (sh : h < 10) (is : ones ≡ word_of a b c d e f g h) where
  abbrev pairs : ℕ
  pairs = ones * 10 + ones / 256

  abbrev fourth_on : ℕ
  fourth_on = (10 * g + h) + 256 * (10 * h)

  abbrev third_on : ℕ
  third_on = ((10 * e + f) + 256 * (10 * f + g)) + 65536 * fourth_on

  abbrev second_on : ℕ
  second_on = ((10 * c + d) + 256 * (10 * d + e)) + 65536 * third_on

  tail : ones / 256 ≡ b + 256 * (c + 256 * (d + 256 * (e + 256 * (f + 256 * (g + 256 * h)))))
  tail = omega arith

  pairs_is : pairs ≡ ((10 * a + b) + 256 * (10 * b + c)) + 65536 * second_on
  pairs_is = omega (arith, tail)

  third_is : pairs ≡ ((10 * a + b) + 256 * (10 * b + c) + 65536 * ((10 * c + d) + 256 * (10 * d + e))) + 4294967296 * third_on
  third_is = omega (arith, pairs_is)

  pub first_pair : pairs % 256 ≡ 10 * a + b
  first_pair = low (10 * a + b) (10 * b + c + 256 * second_on) pairs (omega arith) (omega (arith, pairs_is))

  second_rest : pairs / 65536 ≡ second_on
  second_rest = high ((10 * a + b) + 256 * (10 * b + c)) second_on pairs (omega arith) pairs_is

  pub second_pair : pairs / 65536 % 256 ≡ 10 * c + d
  second_pair = low (10 * c + d) (10 * d + e + 256 * third_on) (pairs / 65536) (omega arith) (omega (arith, second_rest))

  third_rest : pairs / 4294967296 ≡ third_on
  third_rest = higher ((10 * a + b) + 256 * (10 * b + c) + 65536 * ((10 * c + d) + 256 * (10 * d + e))) third_on pairs (omega arith) third_is

  pub third_pair : pairs / 4294967296 % 256 ≡ 10 * e + f
  third_pair = low (10 * e + f) (10 * f + g + 256 * fourth_on) (pairs / 4294967296) (omega arith) (omega (arith, third_rest))

  fourth_is : pairs ≡ ((10 * a + b) + 256 * (10 * b + c) + 65536 * ((10 * c + d) + 256 * (10 * d + e)) + 4294967296 * ((10 * e + f) + 256 * (10 * f + g))) + 281474976710656 * fourth_on
  fourth_is = omega (arith, third_is)

  fourth_rest : pairs / 281474976710656 ≡ fourth_on
  fourth_rest = highest ((10 * a + b) + 256 * (10 * b + c) + 65536 * ((10 * c + d) + 256 * (10 * d + e)) + 4294967296 * ((10 * e + f) + 256 * (10 * f + g))) fourth_on pairs (omega arith) fourth_is

  pub fourth_pair : pairs / 281474976710656 % 256 ≡ 10 * g + h
  fourth_pair = low (10 * g + h) (10 * h) (pairs / 281474976710656) (omega arith) (omega (arith, fourth_rest))

  abbrev apart : ℕ
  apart = pairs % 256 + pairs / 65536 % 256 * 65536 + pairs / 4294967296 % 256 * 4294967296 + pairs / 281474976710656 % 256 * 281474976710656

  apart_is : apart ≡ (10 * a + b) + (10 * c + d) * 65536 + (10 * e + f) * 4294967296 + (10 * g + h) * 281474976710656
  apart_is = omega (arith, first_pair, second_pair, third_pair, fourth_pair)

  pub all_fours : (apart * 100 + apart / 65536) % 65536 * 10000 + (apart * 100 + apart / 65536) / 4294967296 % 65536 ≡ decimal_of a b c d e f g h
  all_fours = two_fours (10 * a + b) (10 * c + d) (10 * e + f) (10 * g + h) apart (omega arith) (omega arith) (omega arith) (omega arith) apart_is ∙ omega arith

-- what eight digits in a word are put together to
abbrev pub pairs_of : ℕ → ℕ
pairs_of ones = ones * 10 + ones / 256

abbrev pub fours_of : ℕ → ℕ
fours_of pairs = pairs % 256 + pairs / 65536 % 256 * 65536 + pairs / 4294967296 % 256 * 4294967296 + pairs / 281474976710656 % 256 * 281474976710656

abbrev pub joined_fours : ℕ → ℕ
joined_fours apart = (apart * 100 + apart / 65536) % 65536 * 10000 + (apart * 100 + apart / 65536) / 4294967296 % 65536

abbrev pub joined : ℕ → ℕ
joined ones = joined_fours (fours_of (pairs_of ones))

-- ---- products of 64 bits, which lose what no pair counts

abbrev pub quick_pairs : ℕ → ℕ
quick_pairs ones = ones * 2561 % 2 ^ 64 / 256

abbrev pub quick_fours : ℕ → ℕ
quick_fours apart = apart * 6553601 % 2 ^ 64 / 65536

abbrev pub quick_joined_fours : ℕ → ℕ
quick_joined_fours apart = quick_fours apart % 65536 * 10000 + quick_fours apart / 4294967296 % 65536

abbrev pub quick_joined : ℕ → ℕ
quick_joined ones = quick_joined_fours (fours_of (quick_pairs ones))

cut_pairs : (n : ℕ) → n * 2561 % 18446744073709551616 / 256 ≡ (n * 10 + n / 256) % 72057594037927936
cut_pairs n = omega arith

cut_fours : (n : ℕ) → n * 6553601 % 18446744073709551616 / 65536 ≡ (n * 100 + n / 65536) % 281474976710656
cut_fours n = omega arith

first_kept : (n : ℕ) → n % 72057594037927936 % 256 ≡ n % 256
first_kept n = omega arith

second_kept : (n : ℕ) → n % 72057594037927936 / 65536 % 256 ≡ n / 65536 % 256
second_kept n = omega arith

third_kept : (n : ℕ) → n % 72057594037927936 / 4294967296 % 256 ≡ n / 4294967296 % 256
third_kept n = omega arith

fourth_kept : (n : ℕ) → n % 72057594037927936 / 281474976710656 % 256 ≡ n / 281474976710656 % 256
fourth_kept n = omega arith

pairs_kept : (n : ℕ) → fours_of (n % 72057594037927936) ≡ fours_of n
pairs_kept n = omega (arith, first_kept n, second_kept n, third_kept n, fourth_kept n)

front_kept : (n : ℕ) → n % 281474976710656 % 65536 ≡ n % 65536
front_kept n = omega arith

back_kept : (n : ℕ) → n % 281474976710656 / 4294967296 % 65536 ≡ n / 4294967296 % 65536
back_kept n = omega arith

fours_kept : (n : ℕ) → quick_joined_fours n ≡ joined_fours n
fours_kept n =
    let fours : ℕ = n * 100 + n / 65536 in
    ap (λ k. k % 65536 * 10000 + k / 4294967296 % 65536) (cut_fours n) ∙ omega (arith, front_kept fours, back_kept fours)

pub quick_is : (n : ℕ) → quick_joined n ≡ joined n
quick_is n = fours_kept _ ∙ ap joined_fours (ap fours_of (cut_pairs n) ∙ pairs_kept (n * 10 + n / 256))
