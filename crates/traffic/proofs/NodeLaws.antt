-- A stream of a tournament in one number, and the lesser of two such numbers.
use Rattle.std.proofs.Common.{◌≡◌, ◌<◌, ◌≤◌, ◌+◌, ◌-◌, ◌*◌, ◌/◌, ◌%◌, ◌^◌, ℕ, Bool, true, false, Option, Some, None, bit_and, refl, sym, ap, ◌∙◌, arith}
use Rattle.std.specs.Prelude.{if◌then◌else◌, nat_lt, ◌==◌, ◌&&◌, ◌||◌}
use Rattle.std.proofs.lemmas.Bool.{eqb-false, eqb-true, ltb-false, ltb-true}
use Rattle.traffic.specs.Head.{head_kept}
use Rattle.traffic.specs.Words.{first_of_two}
use Rattle.traffic.specs.declared.tournament.Head.{Head}
use Rattle.traffic.specs.declared.tournament.TheConstants.{NEVER, PLACES}
use mir.Val.{bool_byte}
use lib.Bits.{and_mask, and_zero_r}

-- a mask of all ones where the right one is less chooses it, and one of none the left one
pub chosen : (l r : ℕ) → l < 2 ^ 128 → (less : Bool) → nat_lt r l ≡ less → (word mask : ℕ) → word ≡ bool_byte less → mask ≡ (0 + (2 ^ 64 - word)) % 2 ^ 64
    → (l + (2 ^ 128 - bit_and ((l + (2 ^ 128 - r)) % 2 ^ 128) (mask * 18446744073709551617))) % 2 ^ 128 ≡ (if less then r else l)
chosen l r high true is word mask one ones =
    let less : r < l = ltb-true r l is in
    let apart : (l + (2 ^ 128 - r)) % 2 ^ 128 ≡ l - r = omega (arith, less, high) in
    let is_one : word ≡ 1 = one in
    let all : mask * 18446744073709551617 ≡ 2 ^ 128 - 1 = omega (arith, ones, is_one) in
    let kept : bit_and ((l + (2 ^ 128 - r)) % 2 ^ 128) (mask * 18446744073709551617) ≡ (l - r) % 2 ^ 128 = ap (bit_and ((l + (2 ^ 128 - r)) % 2 ^ 128)) all ∙ and_mask _ 128 ∙ ap (λ n. n % 2 ^ 128) apart in
    ap (λ n. (l + (2 ^ 128 - n)) % 2 ^ 128) kept ∙ (let back : (l + (2 ^ 128 - (l - r) % 2 ^ 128)) % 2 ^ 128 ≡ r = omega (arith, less, high) in back)
chosen l r high false is word mask one ones =
    let is_none : word ≡ 0 = one in
    let none : mask * 18446744073709551617 ≡ 0 = omega (arith, ones, is_none) in
    let kept : bit_and ((l + (2 ^ 128 - r)) % 2 ^ 128) (mask * 18446744073709551617) ≡ 0 = ap (bit_and ((l + (2 ^ 128 - r)) % 2 ^ 128)) none ∙ and_zero_r _ in
    ap (λ n. (l + (2 ^ 128 - n)) % 2 ^ 128) kept ∙ (let back : (l + (2 ^ 128 - 0)) % 2 ^ 128 ≡ l = omega (arith, high) in back)

-- the order of such numbers is that of moments, then of places
order : (a b : ℕ) (s t u less : Bool) → nat_lt (a / PLACES) (b / PLACES) ≡ s → (a / PLACES == b / PLACES) ≡ t → nat_lt (a % PLACES) (b % PLACES) ≡ u → nat_lt a b ≡ less → (s || (t && u)) ≡ less
order a b true t u true sooner same first is = refl
order a b true t u false sooner same first is = absurd (let no : ⊥ = omega (arith, ltb-true (a / PLACES) (b / PLACES) sooner, ltb-false a b is) in no)
order a b false true true true sooner same first is = refl
order a b false true true false sooner same first is = absurd (let no : ⊥ = omega (arith, eqb-true (a / PLACES) (b / PLACES) same, ltb-true (a % PLACES) (b % PLACES) first, ltb-false a b is) in no)
order a b false true false true sooner same first is = absurd (let no : ⊥ = omega (arith, eqb-true (a / PLACES) (b / PLACES) same, ltb-false (a % PLACES) (b % PLACES) first, ltb-true a b is) in no)
order a b false true false false sooner same first is = refl
order a b false false u true sooner same first is = absurd (eqb-false (a / PLACES) (b / PLACES) same (omega (arith, ltb-false (a / PLACES) (b / PLACES) sooner, ltb-true a b is)))
order a b false false u false sooner same first is = refl

-- a stream that is kept
there : ℕ → Option Head
there key = Some (record { moment = key / PLACES; place = key % PLACES })

-- of two that are kept the lesser number is the first
by_never : (l r : ℕ) → l ≤ NEVER → r ≤ NEVER → (none_l none_r : Bool) → (l == NEVER) ≡ none_l → (r == NEVER) ≡ none_r → (less : Bool) → nat_lt r l ≡ less
    → (if (if less then r else l) == NEVER then None else there (if less then r else l)) ≡ first_of_two (if none_l then None else there l) (if none_r then None else there r)
unfolding there
by_never l r high_l high_r none_l true never_l never_r true is = absurd (let no : ⊥ = omega (arith, eqb-true r NEVER never_r, ltb-true r l is, high_l) in no)
by_never l r high_l high_r none_l true never_l never_r false is = ap (λ never. if never then None else there l) never_l
by_never l r high_l high_r true false never_l never_r true is = ap (λ never. if never then None else there r) never_r
by_never l r high_l high_r true false never_l never_r false is =
    absurd (eqb-false r NEVER never_r (omega (arith, eqb-true l NEVER never_l, ltb-false r l is, high_r)))
by_never l r high_l high_r false false never_l never_r true is =
    ap (λ never. if never then None else there r) never_r ∙ ap (λ before. if before then there r else there l) (sym (order r l _ _ _ true refl refl refl is))
by_never l r high_l high_r false false never_l never_r false is =
    ap (λ never. if never then None else there l) never_l ∙ ap (λ before. if before then there r else there l) (sym (order r l _ _ _ false refl refl refl is))

pub first_kept : (l r : ℕ) → l ≤ NEVER → r ≤ NEVER → head_kept (if nat_lt r l then r else l) ≡ first_of_two (head_kept l) (head_kept r)
unfolding there
first_kept l r high_l high_r = by_never l r high_l high_r _ _ refl refl _ refl
