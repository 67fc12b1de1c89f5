-- What is known of numbers and times that words say, and how many words there are.
use Rattle.std.proofs.Common.{◌≡◌, ◌≤◌, ℕ, ◌+◌, ◌==◌, ◌⊎◌, inl, inr, nat_le, Bool, true, false, cond, List, [], ◌∷◌, length, Option, Some, None, Result, Ok, Err, refl, ap, subst, arith}
use Rattle.std.specs.List.{list_any, onto_first}
use Rattle.std.specs.Option.{option_and_then}
use Rattle.std.proofs.lemmas.Bool.{leb-true, or_cases, true≢false, eqb-true}
use Rattle.std.proofs.lemmas.Option.{cond_some, none-some, option_and_then_some, same_Some}
use Rattle.wire_time.specs.Wire.{octet_time, rate_of, rates}
use Rattle.wire_time.specs.declared.RateFault.TheVariants.{UnknownRate}
use Rattle.wire_time.specs.declared.TheConstants.{MAX_PS_PER_OCTET, MIN_PS_PER_OCTET}
use Rattle.text.specs.Numbers.{at_most, behind_first, number_in, value_behind}
use Rattle.text.specs.Times.{behind_digits, digits_of, time_behind, time_in}
use Rattle.text.specs.Words.{starts_blank, words_of}
use Rattle.script.specs.Settings.{rate_in, rate_where}

-- ---- results

abbrev pub ok_or : {T E : Type 0} → T → Result T E → T
ok_or x (Ok y) = y
ok_or x (Err fault) = x

pub same_ok : {T E : Type 0} (x y : T) → ◌≡◌ {A = Result T E} (Ok x) (Ok y) → x ≡ y
same_ok {T} {E} x y e = ap (λ (r : Result T E). ok_or x r) e

pub no_ok : {T E Z : Type 0} (fault : E) (y : T) → ◌≡◌ {A = Result T E} (Err fault) (Ok y) → Z
no_ok fault y e = absurd cc

-- ---- numbers and times

pub most_law : (most : ℕ) (o : Option ℕ) (n : ℕ) → at_most most o ≡ Some n → n ≤ most
most_law most None n e = absurd (none-some n e)
most_law most (Some m) n e = (let p = cond_some (nat_le m most) m n e in subst (λ (k : ℕ). k ≤ most) p.1 (leb-true m most p.0))

pub time_law : (most : ℕ) (w : List ℕ) (n : ℕ) → time_in most w ≡ Some n → n ≤ most
time_law most w n e =
    most_law most (option_and_then (λ whole. time_behind whole (behind_digits w)) (number_in 10 most (digits_of w))) n e

pub number_law : (base most : ℕ) (w : List ℕ) (n : ℕ) → number_in base most w ≡ Some n → n ≤ most
number_law base most w n e = by (length w == 0) e
  where
    by : (t : Bool) → cond t None (at_most most (value_behind base 0 w)) ≡ Some n → n ≤ most
    by true is = absurd (none-some n is)
    by false is = most_law most (value_behind base 0 w) n is

-- ---- rates

abbrev pub IsRate : ℕ → Type 0
IsRate n = (MIN_PS_PER_OCTET ≤ n) × (n ≤ MAX_PS_PER_OCTET)

-- each of these is a rate
abbrev AreRates : List ℕ → Type 0
AreRates [] = Unit {0}
AreRates (mbps ∷ more) = IsRate (octet_time mbps) × AreRates more

one_of : (all : List ℕ) (mbps : ℕ) → AreRates all → list_any (λ r. r == mbps) all ≡ true → IsRate (octet_time mbps)
one_of [] mbps are is = absurd (true≢false cc)
one_of (r ∷ all) mbps are is = by (or_cases (r == mbps) (list_any (λ r. r == mbps) all) is) (one_of all mbps are.1)
  where
    by : ((r == mbps) ≡ true) ⊎ (list_any (λ r. r == mbps) all ≡ true) → (list_any (λ r. r == mbps) all ≡ true → IsRate (octet_time mbps))
        → IsRate (octet_time mbps)
    by (inl same) rest = subst (λ (n : ℕ). IsRate (octet_time n)) (eqb-true r mbps same) are.0
    by (inr later) rest = rest later

are_rates : AreRates rates
are_rates = (
  (omega arith, omega arith),
  (
    (omega arith, omega arith),
    (
      (omega arith, omega arith),
      (
        (omega arith, omega arith),
        (
          (omega arith, omega arith),
          ((omega arith, omega arith), ((omega arith, omega arith), ((omega arith, omega arith), ((omega arith, omega arith), ((omega arith, omega arith), tt))))),
        ),
      ),
    ),
  ),
)

pub rate_law : (text : List ℕ) (n : ℕ) → rate_in text ≡ Some n → IsRate n
rate_law text n e =
    option_and_then_some (λ mbps. rate_where (rate_of mbps)) (number_in 10 4294967295 text) n e (λ mbps read is.
    by mbps (list_any (λ r. r == mbps) rates) refl is)
  where
    by : (mbps : ℕ) (t : Bool) → list_any (λ r. r == mbps) rates ≡ t → rate_where (cond t (Ok (octet_time mbps)) (Err UnknownRate)) ≡ Some n → IsRate n
    by mbps true among is = subst IsRate (same_Some (octet_time mbps) n is) (one_of rates mbps are_rates among)
    by mbps false among is = absurd (none-some n is)

-- ---- words

onto_law : (b : ℕ) (ws : List (List ℕ)) (n : ℕ) → length ws ≤ n → length (onto_first b ws) ≤ n + 1
onto_law b [] n le = omega arith
onto_law b (w ∷ ws) n le = omega (arith, le)

pub words_law : (octets : List ℕ) → length (words_of octets) ≤ length octets
words_law [] = omega arith
words_law (b ∷ bs) = by (starts_blank (b ∷ bs)) (starts_blank bs) (words_law bs)
  where
    by : (t u : Bool) → length (words_of bs) ≤ length bs
        → length (cond t (words_of bs) (cond u ((b ∷ []) ∷ words_of bs) (onto_first b (words_of bs)))) ≤ length (b ∷ bs)
    by true u le = omega (arith, le)
    by false true le = omega (arith, le)
    by false false le = (let more = onto_law b (words_of bs) (length bs) le in omega (arith, more))

pub behind_law : (ws : List (List ℕ)) → length (behind_first ws) ≤ length ws
behind_law [] = omega arith
behind_law (w ∷ ws) = omega arith
