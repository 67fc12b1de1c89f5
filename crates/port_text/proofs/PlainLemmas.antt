-- An entry whose words stand in front.
use Rattle.std.proofs.Common.{◌≡◌, ◌<◌, ◌≤◌, ℕ, suc, ◌+◌, ◌-◌, ◌*◌, ◌^◌, Bool, true, false, cond, List, [], ◌∷◌, Option, None, Some, Ok, refl, sym, ap, ◌∙◌, get_or, arith, option_and_then}
use Rattle.std.proofs.lemmas.Bool.{le-leb}
use Rattle.std.specs.Str.{bytes_eq}
use Rattle.std.proofs.lemmas.Slice.Eq.{bytes_eq-Decides}
use Rattle.std.specs.Prelude.{codes, length}
use Rattle.port_text.specs.Words.{at_most, digit_in, number_in, value_behind, Word, after_0x, hex_in, Options, sched_entry, value_at, value_or, command_at, entry_at, values_at, item_at, SchedEntry}
use Rattle.text.specs.Numbers.{IsHexPair, behind_first, first_number}

pub plain_entry : (place : ℕ) (behind after rest : List Word) (mask interval : ℕ)
    → value_at SchedEntry (hex_in 255) (place + 2) behind ≡ Ok (mask, after)
    → value_at SchedEntry (number_in 10 (2 ^ 32 - 1)) (place + 3) after ≡ Ok (interval, rest)
    → (g : Options) → item_at g place (codes "sched-entry") (codes "S" ∷ behind) ≡ Ok (sched_entry mask interval, rest)
unfolding command_at entry_at values_at item_at
plain_entry place behind after rest mask interval masked timed g =
    let second : place + 1 + 1 ≡ place + 2 = omega arith in
    let third : place + 1 + 2 ≡ place + 3 = omega arith in
    rw (second, third, masked, timed) refl

-- ---- a mask of two digits

no_prefix : (high low d : ℕ) → digit_in 16 low ≡ Some d → (b : Bool) → bytes_eq (high ∷ low ∷ []) (codes "0x") ≡ b → cond b [] (high ∷ low ∷ []) ≡ high ∷ low ∷ []
no_prefix high low d digit true is =
    let same : high ∷ low ∷ [] ≡ codes "0x" = (bytes_eq-Decides (high ∷ low ∷ []) (codes "0x")).0 is in
    let low_is : low ≡ 120 = ap (λ (ns : List ℕ). get_or ns 1 0) same in
    absurd (none_some (sym (ap (digit_in 16) low_is) ∙ digit))
  where
    none_some : None ≡ Some d → ⊥
    none_some e = cc
no_prefix high low d digit false is = refl

-- a number that is not over the greatest
within : (most n : ℕ) → n ≤ most → at_most most (Some n) ≡ Some n
within most n small = ap (λ b. cond b (Some n) None) (le-leb n most small)

pub two_digits : (high low a b : ℕ) → digit_in 16 high ≡ Some a → digit_in 16 low ≡ Some b → a < 16 → b < 16 → hex_in 255 (high ∷ low ∷ []) ≡ Some (a * 16 + b)
unfolding value_behind
two_digits high low a b first second few less =
    let plain : after_0x (high ∷ low ∷ []) ≡ high ∷ low ∷ [] = no_prefix high low b second (bytes_eq (high ∷ low ∷ []) (codes "0x")) refl in
    let front : 0 + a ≡ a = omega arith in
    let value : value_behind 16 0 (high ∷ low ∷ []) ≡ Some (a * 16 + b) =
    ap (λ o. option_and_then (λ d. value_behind 16 (0 * 16 + d) (low ∷ [])) o) first
    ∙ (ap (λ o. option_and_then (λ d. Some ((0 * 16 + a) * 16 + d)) o) second ∙ ap (λ n. Some (n * 16 + b)) front) in
    ap (number_in 16 255) plain ∙ (ap (at_most 255) value ∙ within 255 (a * 16 + b) (omega arith))

-- ---- an interval that can be read at once

pub told_at_once : (place : ℕ) (left rest : List Word) (n : ℕ) → n ≤ 2 ^ 32 - 1 → ((most : ℕ) → first_number most left ≡ Some (at_most most (Some n))) → rest ≡ behind_first left
    → value_at SchedEntry (number_in 10 (2 ^ 32 - 1)) place left ≡ Ok (n, rest)
unfolding value_at
told_at_once place [] rest n small number is = absurd (none_some (number 0))
  where
    none_some : {o : Option ℕ} → None ≡ Some o → ⊥
    none_some e = cc
told_at_once place (w ∷ ws) rest n small number is =
    ap (value_or place ws) (inner (number (2 ^ 32 - 1)) ∙ within (2 ^ 32 - 1) n small) ∙ ap (λ (r : List Word). Ok (n, r)) (sym is)
  where
    inner : {x y : Option ℕ} → Some x ≡ Some y → x ≡ y
    inner e = cc

pub behind_one : (left rest : List Word) (n : ℕ) → ((most : ℕ) → first_number most left ≡ Some (at_most most (Some n))) → rest ≡ behind_first left → length left ≡ suc (length rest)
behind_one [] rest n number is = absurd (none_some (number 0))
  where
    none_some : {o : Option ℕ} → None ≡ Some o → ⊥
    none_some e = cc
behind_one (w ∷ ws) rest n number is = ap (λ (r : List Word). suc (length r)) (sym is)

pub mask_told : (place : ℕ) (left rest : List Word) (w : Word) (a b : ℕ) → IsHexPair w a b → left ≡ w ∷ rest → a < 16 → b < 16
    → value_at SchedEntry (hex_in 255) place left ≡ Ok (a * 16 + b, rest)
unfolding value_at
mask_told place left rest w a b pair is few less =
    ap (value_at SchedEntry (hex_in 255) place) is ∙ ap (value_or place rest) (ap (hex_in 255) pair.word_is ∙ two_digits pair.high pair.low a b pair.front_is pair.behind_is few less)
