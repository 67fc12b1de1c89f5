-- Slots: the next one, and how they follow.
use Rattle.std.proofs.Common.{◌≡◌, ◌<◌, ◌≤◌, ℕ, zero, suc, ◌+◌, ◌-◌, ◌⊎◌, Bool, true, false, List, [], ◌∷◌, ◌++◌, length, get_or, Some, None, inl, inr, refl, sym, ◌∙◌, subst, arith, eqb, eq-eqb, ne_eqb}
use Rattle.std.proofs.lemmas.Bool.{cases_lt}
use Rattle.std.proofs.lemmas.List.{length-append}
use Rattle.std.proofs.Math.ListN.{get_or-append}
use Rattle.std.proofs.Math.Seq.{get_or-append_seam}
use Rattle.abstract_port.specs.Served.{IsFirst}
use Rattle.delay_bounds.specs.Bounds.{first_fit}
use Rattle.delay_bounds.proofs.NeverLaws.{none_is}
use Rattle.delay_bounds.proofs.WaitLaws.{first_is}
use Rattle.any_traffic.specs.Slots.{IsSlot}
use Rattle.any_traffic.proofs.SlotLaws.{one_slot, slot_before}

-- a first moment that is found is the one that is asked about just where the class may have the wire then
module _ (may : ℕ → ℕ → Bool) (d t n : ℕ) (some : 0 < n) where
  pub shown : (s : ℕ) → Some s ≡ first_fit may d t n → eqb s t ≡ may t d
  shown s is =
      let first = first_is may d t n s (sym is) in
      elim (cases_lt t s) [
        | inl later ↦ ne_eqb s t (λ e. (let wrong : ⊥ = omega (arith, e, later) in wrong)) ∙ sym (first.least t (omega arith) later)
        | inr here ↦
            let from = first.from in
            let same : s ≡ t = omega (arith, here, from) in
            eq-eqb s t same ∙ sym (subst (λ k. may k d ≡ true) same first.fits)
      ]

  pub not_shown : None ≡ first_fit may d t n → false ≡ may t d
  not_shown is = sym (none_is may d t n (sym is) t (omega arith) (omega arith))

-- what holds at each place of a list, and of one more behind them
pub one_more : (P : ℕ → ℕ → Type 0) (xs : List ℕ) (x : ℕ) → ((i : ℕ) → i < length xs → P i (get_or xs i 0)) → P (length xs) x
    → (i : ℕ) → i < length (xs ++ x ∷ []) → P i (get_or (xs ++ x ∷ []) i 0)
one_more P xs x each last i less = elim (cases_lt i (length xs)) [
  | inl before ↦ subst (P i) (sym (get_or-append xs (x ∷ []) 0 i before)) (each i before)
  | inr after ↦
      let all = length-append xs (x ∷ []) in
      let one : length (x ∷ []) ≡ 1 = refl in
      let here : length xs ≡ i = omega (arith, all, one, after, less) in
      subst (λ k. P k (get_or (xs ++ x ∷ []) k 0)) here (subst (P (length xs)) (sym (get_or-append_seam xs x [] 0)) last)
]

module _ (may : ℕ → ℕ → Bool) (d : ℕ) where
  -- the slot behind one
  pub slot_then : (t n r s : ℕ) → IsSlot may d t n r → IsFirst may d (r + d) s → IsSlot may d t (suc n) s
  slot_then t zero r s h first = (r, h, first)
  slot_then t (suc n) r s h first = (h.0, h.1, slot_then (h.0 + d) n r s h.2 first)

  -- From next on the slot behind so many others is sought: it is the first of all, or it follows one.
  pub record IsSought (from n next : ℕ) : Type 0 where
    pub by : ((n ≡ 0) × (next ≡ from)) ⊎ ((k : ℕ) × (r : ℕ) × (n ≡ suc k) × IsSlot may d from k r × (next ≡ r + d))

  pub found : (from n next s : ℕ) → IsSought from n next → IsFirst may d next s → IsSlot may d from n s
  found from n next s h first = elim h.by [
    | inl none ↦ subst (λ k. IsSlot may d from k s) (sym none.0) (subst (λ k. IsFirst may d k s) none.1 first)
    | inr some ↦ subst (λ k. IsSlot may d from k s) (sym some.2)
        (slot_then from some.0 some.1 s some.3 (subst (λ k. IsFirst may d k s) some.4 first))
  ]

  pub sought_next : (from n next s : ℕ) → IsSought from n next → IsFirst may d next s → IsSought from (n + 1) (s + d)
  sought_next from n next s h first = record { by = inr (n, s, omega arith, found from n next s h first, refl) }

  -- none is before the moment
  pub slot_from : (t n s : ℕ) → IsSlot may d t n s → t ≤ s
  slot_from t zero s h = h.from
  slot_from t (suc n) s h = (let a = (h.1).from in let b = slot_from (h.0 + d) n s h.2 in omega (arith, a, b))

  -- one behind fewer others is no later
  pub slots_rise : (t m n r s : ℕ) → m ≤ n → IsSlot may d t m r → IsSlot may d t n s → r ≤ s
  slots_rise t m n r s le a b =
      let before = slot_before may d t m (n - m) n s (omega (arith, le)) b in
      let same = one_slot may d t m before.0 r before.1 a in
      let up = before.2 in
      omega (arith, same, up)
