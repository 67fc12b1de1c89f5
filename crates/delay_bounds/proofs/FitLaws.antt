-- A first moment that is found is the first.
use Rattle.std.proofs.Common.{◌≡◌, ◌<◌, ◌≤◌, ℕ, zero, suc, ◌+◌, true, false, cond, Some, None, inl, inr, refl, sym, ap, ◌∙◌, subst, arith, le_refl}
use Rattle.std.proofs.lemmas.Bool.{cases_lt}
use Rattle.gates.specs.Open.{open_while}
use Rattle.gates.specs.Stay.{NoneFrom}
use Rattle.gates.proofs.IdleLaws.{none_flat}
use Rattle.jumping.specs.Position.{IsFlat}
use Rattle.delay_bounds.specs.Bounds.{first_fit}

module _ (mask : ℕ → ℕ) (class d : ℕ) where
  pub fit_none : (t n : ℕ) → NoneFrom mask class d t (t + n) → first_fit (open_while mask class) d t n ≡ None
  unfolding first_fit
  fit_none t zero h = refl
  fit_none t (suc n) h =
      ap (λ b. cond b (Some t) (first_fit (open_while mask class) d (t + 1) n)) (h t (le_refl t) (omega arith))
      ∙ fit_none (t + 1) n (λ m from below. h m (omega arith) (omega arith))

  pub fit_some : (t n u : ℕ) → t ≤ u → u < t + n → NoneFrom mask class d t u → open_while mask class u d ≡ true → first_fit (open_while mask class) d t n ≡ Some u
  unfolding first_fit
  fit_some t zero u from below h o = absurd (omega arith)
  fit_some t (suc n) u from below h o = elim (cases_lt t u) [
    | inl before ↦
        ap (λ b. cond b (Some t) (first_fit (open_while mask class) d (t + 1) n)) (h t (le_refl t) before)
        ∙ fit_some (t + 1) n u (omega arith) (omega arith) (λ m after less. h m (omega arith) less) o
    | inr here ↦
        let same : t ≡ u = omega arith in
        ap (λ b. cond b (Some t) (first_fit (open_while mask class) d (t + 1) n)) (subst (λ k. open_while mask class k d ≡ true) (sym same) o) ∙ ap Some same
  ]

  pub none_join : (t u v : ℕ) → NoneFrom mask class d t u → NoneFrom mask class d u v → NoneFrom mask class d t v
  none_join t u v a b m from below = elim (cases_lt m u) [ inl before ↦ a m from before | inr after ↦ b m after below ]

  -- while one mask shows nothing more fits
  pub flat_to : (t u v : ℕ) → IsFlat mask u (Some v) → NoneFrom mask class d t u → open_while mask class u d ≡ false → NoneFrom mask class d t v
  flat_to t u v flat none shut = none_join t u v none (none_flat mask class d u v (λ n from below. flat.same n from (λ w e. (let same : v ≡ w = cc in omega arith))) shut)

pub later_than : (mask : ℕ → ℕ) (u v : ℕ) → IsFlat mask u (Some v) → u < v
later_than mask u v flat = flat.later v refl
