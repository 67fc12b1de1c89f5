-- The search for the first moment from which a class is open for so long.
use Rattle.std.proofs.Common.{◌≡◌, ◌<◌, ◌≤◌, ℕ, zero, suc, ◌+◌, ◌-◌, true, false, inl, inr, sym, ap, ◌∙◌, arith}
use Rattle.std.proofs.lemmas.Bool.{cases_lt, false≢true, false_from_ne_true}
use Rattle.jumping.specs.Words.{opens, open_while, NoneFrom}
use Rattle.gates.proofs.OpenLaws.{open_at, open_from}

-- one cycle back
pub open_back : (f : ℕ → ℕ) (class d cycle a e n : ℕ) → ((m : ℕ) → a ≤ m → m + cycle < e → f (m + cycle) ≡ f m) → a + cycle ≤ n → n + cycle ≤ e → open_while f class n d ≡ true → open_while f class (n - cycle) d ≡ true
open_back f class d cycle a e n same from to o =
    open_from f class (n - cycle) d (λ i after before.
    elim (cases_lt (i + cycle) e) [
      | inl inside ↦ ap (λ m. opens m class) (sym (same i (omega arith) inside)) ∙ open_at f class n d o (i + cycle) (omega arith) (omega arith)
      | inr late ↦ open_at f class n d o i (omega arith) (omega arith)
    ])

-- with a number of cycles that suffices
pub none_by : (f : ℕ → ℕ) (class d cycle a e : ℕ) → 0 < cycle → ((m : ℕ) → a ≤ m → m + cycle < e → f (m + cycle) ≡ f m) → NoneFrom f class d a (a + cycle) → (steps n : ℕ) → n ≤ a + steps → a ≤ n → n + cycle ≤ e → open_while f class n d ≡ false
none_by f class d cycle a e above same none zero n most from to = none n from (omega arith)
none_by f class d cycle a e above same none (suc steps) n most from to =
    elim (cases_lt n (a + cycle)) [
      | inl first ↦ none n from first
      | inr later ↦ false_from_ne_true (open_while f class n d) (λ o.
          false≢true (sym (none_by f class d cycle a e above same none steps (n - cycle) (omega arith) (omega arith) (omega arith)) ∙ open_back f class d cycle a e n same later to o))
    ]

pub none_steady : (f : ℕ → ℕ) (class d cycle a e : ℕ) → 0 < cycle → ((m : ℕ) → a ≤ m → m + cycle < e → f (m + cycle) ≡ f m) → NoneFrom f class d a (a + cycle) → (n : ℕ) → a ≤ n → n + cycle ≤ e → open_while f class n d ≡ false
none_steady f class d cycle a e above same none n from to = none_by f class d cycle a e above same none n n (omega arith) from to
