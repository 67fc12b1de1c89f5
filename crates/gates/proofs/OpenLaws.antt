-- Laws of gates that stay open for a while.
use Rattle.std.proofs.Common.{◌≡◌, ◌<◌, ◌≤◌, ℕ, zero, suc, ◌+◌, ◌-◌, min, Bool, true, false, ◌&&◌, ◌⊎◌, inl, inr, zero-add, add-zero, suc-add, refl, sym, ap, ◌∙◌, subst, arith, lt_of_lt_of_le, le_trans, le_refl}
use Rattle.std.proofs.lemmas.Bool.{and_parts, and_from, false_from_ne_true, false≢true, cases_lt}
use Rattle.gates.specs.Gate.{opens}
use Rattle.gates.specs.Open.{open_while}
use Rattle.std.proofs.Math.Bool.{and-true}

-- masks that agree in the while stay open alike
pub same_while : (f g : ℕ → ℕ) (class s d : ℕ) → ((n : ℕ) → s ≤ n → n < s + d → f n ≡ g n) → open_while f class s d ≡ open_while g class s d
unfolding open_while
same_while f g class s zero e = refl
same_while f g class s (suc d) e =
    let rest = same_while f g class (s + 1) d (λ n from below. e n (omega arith) (omega arith)) in
    ap (λ m. opens m class && open_while f class (s + 1) d) (e s (le_refl s) (omega arith)) ∙ ap (λ b. opens (g s) class && b) rest

-- open for so long: open at each moment of it
pub open_at : (f : ℕ → ℕ) (class s d : ℕ) → open_while f class s d ≡ true → (n : ℕ) → s ≤ n → n < s + d → opens (f n) class ≡ true
unfolding open_while
open_at f class s zero o n from below = absurd (omega arith)
open_at f class s (suc d) o n from below =
    let parts = and_parts _ _ o in
    elim (cases_le s n from) [
      | inl here ↦ subst (λ k. opens (f k) class ≡ true) here parts.0
      | inr after ↦ open_at f class (s + 1) d parts.1 n (omega arith) (omega arith)
    ]
  where
    cases_le : (a b : ℕ) → a ≤ b → (a ≡ b) ⊎ (a < b)
    cases_le a b l = grind arith

pub open_from : (f : ℕ → ℕ) (class s d : ℕ) → ((n : ℕ) → s ≤ n → n < s + d → opens (f n) class ≡ true) → open_while f class s d ≡ true
unfolding open_while
open_from f class s zero e = refl
open_from f class s (suc d) e =
    and_from _ _ (e s (le_refl s) (omega arith)) (open_from f class (s + 1) d (λ n from below. e n (omega arith) (omega arith)))

pub and_assoc : (a b c : Bool) → (a && (b && c)) ≡ ((a && b) && c)
and_assoc true b c = refl
and_assoc false b c = refl

-- a while in two parts
pub open_split : (f : ℕ → ℕ) (class s c d : ℕ) → open_while f class s (c + d) ≡ (open_while f class s c && open_while f class (s + c) d)
unfolding open_while
open_split f class s zero d =
    ap (λ n. open_while f class s n) (zero-add d) ∙ ap (λ n. open_while f class n d) (sym (add-zero s))
open_split f class s (suc c) d =
    let at : s + 1 + c ≡ s + suc c = omega arith in
    ap (λ n. open_while f class s n) (suc-add c d)
    ∙ (ap (λ b. opens (f s) class && b) (open_split f class (s + 1) c d ∙ ap (λ n. open_while f class (s + 1) c && open_while f class n d) at)
    ∙ and_assoc (opens (f s) class) (open_while f class (s + 1) c) (open_while f class (s + suc c) d))

-- a class is open as long from two moments from which the masks are equal
pub shift_while : (f g : ℕ → ℕ) (class s t d : ℕ) → ((n : ℕ) → n < d → f (s + n) ≡ g (t + n)) → open_while f class s d ≡ open_while g class t d
unfolding open_while
shift_while f g class s t zero e = refl
shift_while f g class s t (suc d) e =
    let here : f s ≡ g t = ap f (sym (add-zero s)) ∙ (e 0 (omega arith) ∙ ap g (add-zero t)) in
    let rest = shift_while f g class (s + 1) (t + 1) d (λ n l.
    let left : s + 1 + n ≡ s + suc n = omega arith in
    let right : t + suc n ≡ t + 1 + n = omega arith in
    ap f left ∙ (e (suc n) (omega arith) ∙ ap g right)) in
    ap (λ m. opens m class && open_while f class (s + 1) d) here ∙ ap (λ b. opens (g t) class && b) rest

-- the first moment from which the class is open for so long is the first asked for, or comes right after a closed one
pub first_after_closed : (f : ℕ → ℕ) (class s d : ℕ) → open_while f class s d ≡ false → open_while f class (s + 1) d ≡ true → opens (f s) class ≡ false
first_after_closed f class s d shut then =
    false_from_ne_true (opens (f s) class) (λ here.
    false≢true (sym shut ∙ open_from f class s d (λ n from below.
    elim (cases_lt s n) [
      | inl after ↦ open_at f class (s + 1) d then n (omega arith) (omega arith)
      | inr at ↦ subst (λ k. opens (f k) class ≡ true) (let e : s ≡ n = omega arith in e) here
    ])))

-- a while that passes b, in two parts
pub open_past : (f : ℕ → ℕ) (class n b d : ℕ) → n ≤ b → b ≤ n + d → open_while f class n d ≡ (open_while f class n (b - n) && open_while f class b (n + d - b))
open_past f class n b d l r =
    let whole : d ≡ (b - n) + (n + d - b) = omega arith in
    let at : n + (b - n) ≡ b = omega arith in
    ap (λ k. open_while f class n k) whole ∙ (open_split f class n (b - n) (n + d - b) ∙ ap (λ k. open_while f class n (b - n) && open_while f class k (n + d - b)) at)

-- a part of a while
pub open_within : (f : ℕ → ℕ) (class s d t c : ℕ) → open_while f class s d ≡ true → s ≤ t → t + c ≤ s + d → open_while f class t c ≡ true
open_within f class s d t c o l r = open_from f class t c (λ n from below. open_at f class s d o n (le_trans l from) (lt_of_lt_of_le below r))

-- a while up to b and from b on, either of which may be empty
pub open_parts : (f : ℕ → ℕ) (class n b d : ℕ) → n ≤ b → open_while f class n d ≡ (open_while f class n (min d (b - n)) && open_while f class b (n + d - b))
unfolding open_while
open_parts f class n b d l =
    elim (cases_lt (n + d) b) [
      | inr past ↦
          (let whole : b - n ≡ min d (b - n) = omega arith in
          open_past f class n b d l past ∙ ap (λ k. open_while f class n k && open_while f class b (n + d - b)) whole)
      | inl short ↦
          (let whole : d ≡ min d (b - n) = omega arith in
          let none : zero ≡ n + d - b = omega arith in
          ap (λ k. open_while f class n k) whole ∙ (sym (and-true (open_while f class n (min d (b - n)))) ∙ ap (λ k. open_while f class n (min d (b - n)) && open_while f class b k) none))
    ]
