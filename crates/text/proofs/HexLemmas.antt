-- The table of hexadecimal digits.
use Rattle.std.proofs.Common.{◌≡◌, ◌<◌, ◌≤◌, ℕ, true, false, eqb, Bool, Option, None, Some, refl, sym, ap, ◌∙◌, get_or}
use Rattle.std.proofs.lemmas.Bool.{agree_below_at, eqb-true, le-ltb, ltb-true}
use Rattle.std.specs.Prelude.{◌||◌, nat_lt}
use Rattle.text.specs.Numbers.{digit_in}
use Rattle.text.specs.declared.words.numbers.TheConstants.{HEXADECIMAL}

-- the table has the digit that an octet is
abbrev is_one : Option ℕ → ℕ → Bool
is_one None d = false
is_one (Some e) d = eqb e d

abbrev pub tabled : ℕ → ℕ
tabled octet = get_or HEXADECIMAL octet 0

says_digit : (octet : ℕ) → octet < 256 → (nat_lt 15 (tabled octet) || is_one (digit_in 16 octet) (tabled octet)) ≡ true
says_digit octet small = agree_below_at (λ x. nat_lt 15 (tabled x) || is_one (digit_in 16 x) (tabled x)) (λ x. true) 256 octet refl small

pub tabled_digit : (octet : ℕ) → octet < 256 → tabled octet ≤ 15 → digit_in 16 octet ≡ Some (tabled octet)
tabled_digit octet small few = by_digit (digit_in 16 octet) (ap (λ b. b || is_one (digit_in 16 octet) (tabled octet)) (sym (le-ltb _ _ few)) ∙ says_digit octet small)
  where
    by_digit : (o : Option ℕ) → is_one o (tabled octet) ≡ true → o ≡ Some (tabled octet)
    by_digit None e = absurd cc
    by_digit (Some d) e = ap Some (eqb-true d (tabled octet) e)

dark_digit : (octet : ℕ) → octet < 256 → (nat_lt 15 (tabled octet) || nat_lt 32 octet) ≡ true
dark_digit octet small = agree_below_at (λ x. nat_lt 15 (tabled x) || nat_lt 32 x) (λ x. true) 256 octet refl small

pub tabled_dark : (octet : ℕ) → octet < 256 → tabled octet ≤ 15 → 32 < octet
tabled_dark octet small few = ltb-true 32 octet (ap (λ b. b || nat_lt 32 octet) (sym (le-ltb _ _ few)) ∙ dark_digit octet small)
