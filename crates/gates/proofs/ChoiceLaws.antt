-- Laws of the choice of a class.
use Rattle.std.proofs.Common.{◌≡◌, ◌<◌, ◌≤◌, ℕ, zero, suc, ◌-◌, Bool, true, false, cond, List, Option, Some, None, inl, inr, refl, sym, ap, ◌∙◌, subst, arith}
use Rattle.std.proofs.lemmas.Bool.{cases_eq, cases_lt, false≢true}
use Rattle.std.specs.Prelude.{slice_index_or, IsSome}
use Rattle.gates.specs.History.{Accepted, kept, IsRising, ArePast}
use Rattle.gates.specs.Choice.{may_start, greatest_below, first_choice}
use Rattle.gates.proofs.HistoryLaws.{kept_open_through}

pub greatest_below-pass : (n : ℕ) (pass : ℕ → Bool) → pass n ≡ true → greatest_below (suc n) pass ≡ Some n
unfolding greatest_below
greatest_below-pass n pass p = ap (λ b. cond b (Some n) (greatest_below n pass)) p

pub greatest_below-fail : (n : ℕ) (pass : ℕ → Bool) → pass n ≡ false → greatest_below (suc n) pass ≡ greatest_below n pass
unfolding greatest_below
greatest_below-fail n pass p = ap (λ b. cond b (Some n) (greatest_below n pass)) p

-- a walk down from n
pub greatest_below-here : (n : ℕ) (pass : ℕ → Bool) → 0 < n → pass (n - 1) ≡ true → greatest_below n pass ≡ Some (n - 1)
greatest_below-here zero pass above p = absurd (omega arith)
greatest_below-here (suc n) pass above p =
    let e : suc n - 1 ≡ n = omega arith in
    greatest_below-pass n pass (ap pass (sym e) ∙ p) ∙ ap (λ k. Some k) (sym e)

pub greatest_below-down : (n : ℕ) (pass : ℕ → Bool) → 0 < n → pass (n - 1) ≡ false → greatest_below n pass ≡ greatest_below (n - 1) pass
greatest_below-down zero pass above p = absurd (omega arith)
greatest_below-down (suc n) pass above p =
    let e : suc n - 1 ≡ n = omega arith in
    greatest_below-fail n pass (ap pass (sym e) ∙ p) ∙ ap (λ k. greatest_below k pass) (sym e)

pub greatest_below-zero : (pass : ℕ → Bool) → greatest_below 0 pass ≡ None
unfolding greatest_below
greatest_below-zero pass = refl

-- the choice depends on the tests of the numbers below n alone
pub greatest_below-same : (n : ℕ) (p q : ℕ → Bool) → ((k : ℕ) → k < n → p k ≡ q k) → greatest_below n p ≡ greatest_below n q
unfolding greatest_below
greatest_below-same zero p q same = refl
greatest_below-same (suc n) p q same =
    ap (λ b. cond b (Some n) (greatest_below n p)) (same n (omega arith))
    ∙ ap (λ r. cond (q n) (Some n) r) (greatest_below-same n p q (λ k l. same k (omega arith)))

less_by : (n c : ℕ) (b : Bool) (r : Option ℕ) → (r ≡ Some c → c < n) → cond b (Some n) r ≡ Some c → c < suc n
less_by n c true r below e = let f : n ≡ c = (cc) in omega arith
less_by n c false r below e = let f = below e in omega arith

-- what is chosen is below n
pub greatest_below-less : (n : ℕ) (p : ℕ → Bool) (c : ℕ) → greatest_below n p ≡ Some c → c < n
unfolding greatest_below
greatest_below-less zero p c e = absurd (cc)
greatest_below-less (suc n) p c e = less_by n c (p n) (greatest_below n p) (greatest_below-less n p c) e

-- Where no number passes, there is no greatest that does.
pub greatest_below-none : (n : ℕ) (p : ℕ → Bool) → ((k : ℕ) → k < n → p k ≡ false) → greatest_below n p ≡ None
unfolding greatest_below
greatest_below-none zero p fails = refl
greatest_below-none (suc n) p fails =
    ap (λ b. cond b (Some n) (greatest_below n p)) (fails n (omega arith))
    ∙ greatest_below-none n p (λ k l. fails k (omega arith))

passes_by : (n c : ℕ) (p : ℕ → Bool) (b : Bool) (r : Option ℕ) → p n ≡ b → (r ≡ Some c → p c ≡ true) → cond b (Some n) r ≡ Some c → p c ≡ true
passes_by n c p true r here below e = let f : n ≡ c = (cc) in subst (λ k. p k ≡ true) f here
passes_by n c p false r here below e = below e

-- what is chosen passes
pub greatest_below-passes : (n : ℕ) (p : ℕ → Bool) (c : ℕ) → greatest_below n p ≡ Some c → p c ≡ true
unfolding greatest_below
greatest_below-passes zero p c e = absurd (cc)
greatest_below-passes (suc n) p c e = passes_by n c p (p n) (greatest_below n p) refl (greatest_below-passes n p c) e

some_by : (n : ℕ) (b : Bool) (r : Option ℕ) → (b ≡ false → IsSome r) → IsSome (cond b (Some n) r)
some_by n true r below = refl
some_by n false r below = below refl

-- something is chosen where a number passes
pub greatest_below-some : (n : ℕ) (p : ℕ → Bool) (k : ℕ) → k < n → p k ≡ true → IsSome (greatest_below n p)
unfolding greatest_below
greatest_below-some zero p k l passes = absurd (omega arith)
greatest_below-some (suc n) p k l passes = some_by n (p n) (greatest_below n p) (λ fails.
    greatest_below-some n p k (
    elim (cases_eq k n) [
      | inl here ↦ absurd (false≢true (sym fails ∙ subst (λ j. p j ≡ true) here passes))
      | inr other ↦ lower k n l other
    ]) passes)
  where
    lower : (k n : ℕ) → k < suc n → (k ≡ n → ⊥) → k < n
    lower k n l other = elim (cases_lt k n) [ inl below ↦ below | inr above ↦ absurd (other (omega arith)) ]

-- what alone passes is chosen
pub greatest_below-alone : (n : ℕ) (pass : ℕ → Bool) (k : ℕ) → k < n → pass k ≡ true → ((j : ℕ) → j < n → (j ≡ k → ⊥) → pass j ≡ false) → greatest_below n pass ≡ Some k
unfolding greatest_below
greatest_below-alone zero pass k l h others = absurd (omega arith)
greatest_below-alone (suc n) pass k l h others =
    elim (cases_eq n k) [
      | inl e ↦ let t : pass n ≡ true = subst (λ j. pass j ≡ true) (sym e) h in rw t (ap Some e)
      | inr ne ↦ rw (others n (omega arith) ne) (greatest_below-alone n pass k (omega arith) h (λ j lj nj. others j (omega arith) nj))
    ]

-- what a history keeps at m decides each later choice
pub first_choice-kept : (e m : ℕ) (h : List Accepted) → IsRising e h → ArePast m h → (n : ℕ) (needs : List (Option ℕ)) → m ≤ n → first_choice (kept h m) n needs ≡ first_choice h n needs
first_choice-kept e m h s p n needs l = greatest_below-same 8 _ _ (λ class _. same class (slice_index_or needs class None))
  where
    same : (class : ℕ) (need : Option ℕ) → may_start (kept h m) n class need ≡ may_start h n class need
    same class None = refl
    same class (Some d) = kept_open_through e m h s p class n d l
