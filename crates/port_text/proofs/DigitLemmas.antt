-- A number has digits alone.
use Rattle.std.proofs.Common.{◌≡◌, ℕ, suc, ◌+◌, ◌-◌, ◌*◌, ◌≤◌, ◌^◌, Bool, true, false, cond, eqb, leb, ltb, [], ◌∷◌, length, None, Some, refl, sym, ap, ◌∙◌, arith}
use Rattle.std.specs.Prelude.{◌&&◌, option_and_then}
use Rattle.std.specs.List.{list_all, before_first, after_first}
use Rattle.std.specs.declared.option.Option.{Option}
use Rattle.std.proofs.lemmas.Bool.{ne_eqb, lt-ltb, le-ltb}
use Rattle.std.proofs.lemmas.Bool.Decides.{nat_tests}
use Rattle.port_text.specs.Words.{number_in, is_digits, value_behind, digit_in, at_most, Word, MAX_SDU_VALUES, is_sign, is_range, range_of, limit_at}
use Rattle.text.specs.Numbers.{is_digit}

pub and_then_some : {X Y : Type 0} (f : X → Option Y) (o : Option X) (y : Y) → option_and_then f o ≡ Some y → (x : X) × (o ≡ Some x) × (f x ≡ Some y)
and_then_some f None y e = absurd cc
and_then_some f (Some x) y e = (x, refl, e)

large_digit : (x d : ℕ) → 10 ≤ x → cond (ltb x 10) (Some x) None ≡ Some d → ⊥
large_digit x d large e = by_test (ltb x 10) (le-ltb x 10 large) e
  where
    by_test : (t : Bool) → t ≡ false → cond t (Some x) None ≡ Some d → ⊥
    by_test true is e = absurd cc
    by_test false is e = absurd cc

decimal_digit : (b d : ℕ) → digit_in 10 b ≡ Some d → is_digit b ≡ true
decimal_digit b d e = by_tests (is_digit b) (leb 97 b && leb b 102) (leb 65 b && leb b 70) refl refl refl e
  where
    by_tests : (t u v : Bool) → is_digit b ≡ t → (leb 97 b && leb b 102) ≡ u → (leb 65 b && leb b 70) ≡ v
        → option_and_then (λ x. cond (ltb x 10) (Some x) None) (cond t (Some (b - 48)) (cond u (Some (b - 87)) (cond v (Some (b - 55)) None))) ≡ Some d → is_digit b ≡ true
    by_tests true u v p q r e = p
    by_tests false true v p q r e = absurd (large_digit (b - 87) d (grind (arith, nat_tests)) e)
    by_tests false false true p q r e = absurd (large_digit (b - 55) d (grind (arith, nat_tests)) e)
    by_tests false false false p q r e = absurd cc

value_digits : (v : ℕ) (w : Word) (n : ℕ) → value_behind 10 v w ≡ Some n → list_all is_digit w ≡ true
unfolding value_behind
value_digits v [] n e = refl
value_digits v (b ∷ w) n e =
    let d = and_then_some (λ d. value_behind 10 (v * 10 + d) w) (digit_in 10 b) n e in
    rw (decimal_digit b d.0 d.1) (value_digits (v * 10 + d.0) w n d.2)

pub digits_of : (most : ℕ) (w : Word) (n : ℕ) → number_in 10 most w ≡ Some n → is_digits w ≡ true
digits_of most [] n e = absurd cc
digits_of most (b ∷ w) n e =
    let some : eqb (suc (length w)) 0 ≡ false = ne_eqb (suc (length w)) 0 (omega arith) in
    let v = and_then_some (λ n. cond (leb n most) (Some n) None) (value_behind 10 0 (b ∷ w)) n (sym (ap (λ (t : Bool). cond t None (at_most most (value_behind 10 0 (b ∷ w)))) some) ∙ e) in
    let least : ltb 0 (suc (length w)) ≡ true = lt-ltb 0 (suc (length w)) (omega arith) in
    rw least (value_digits 0 (b ∷ w) v.0 v.1)

-- a range has the form of one
pub range_form : (w : Word) (r : ℕ × ℕ) → range_of w ≡ Some r → is_range w ≡ true
range_form w r e =
    let a = and_then_some (λ count. option_and_then (λ offset. Some (count, offset)) (number_in 10 (2 ^ 16 - 1) (after_first is_sign w))) (number_in 10 (2 ^ 16 - 1) (before_first is_sign w)) r e in
    let b = and_then_some (λ (offset : ℕ). Some (a.0, offset)) (number_in 10 (2 ^ 16 - 1) (after_first is_sign w)) r a.2 in
    rw (digits_of (2 ^ 16 - 1) (before_first is_sign w) a.0 a.1) (digits_of (2 ^ 16 - 1) (after_first is_sign w) b.0 b.1)

pub limit_take : (first p : ℕ) (w : Word) (n : ℕ) → limit_at first p w ≡ Some n → (ltb (p - first) MAX_SDU_VALUES ≡ true) × (number_in 10 (2 ^ 32 - 1) w ≡ Some n)
limit_take first p w n e = by_test (ltb (p - first) MAX_SDU_VALUES) e
  where
    by_test : (t : Bool) → cond t (number_in 10 (2 ^ 32 - 1) w) None ≡ Some n → (t ≡ true) × (number_in 10 (2 ^ 32 - 1) w ≡ Some n)
    by_test true e = (refl, e)
    by_test false e = absurd cc
