-- Shared slots: they are determined, they rise, and those that are one for more frames are no sooner.
use Rattle.std.proofs.Common.{◌≡◌, ◌≤◌, ℕ, zero, suc, ◌+◌, ◌-◌, Bool, inl, inr, refl, sym, ap, ◌∙◌, subst, arith, le_refl}
use Rattle.std.proofs.lemmas.Bool.{both_ways, cases_lt}
use Rattle.any_traffic.specs.SharedSlots.{IsFirstShared, IsNextShared, IsNextWindow, IsSharedSlot}

module _ (may : ℕ → ℕ → Bool) (own pitch : ℕ) (blocking : ℕ → ℕ) where
  abbrev IsSlot : ℕ → ℕ → ℕ → Type 0
  IsSlot = IsSharedSlot may own pitch blocking

  one_window : (t r s : ℕ) → IsNextWindow may own pitch blocking t r → IsNextWindow may own pitch blocking t s → r ≡ s
  one_window t r s a b =
      let same : a.opening ≡ b.opening = elim (cases_lt a.opening b.opening) [
        | inl less ↦ absurd (both_ways _ (b.least a.opening a.after less) a.opens)
        | inr more ↦ elim (cases_lt b.opening a.opening) [
          | inl less ↦ absurd (both_ways _ (a.least b.opening b.after less) b.opens)
          | inr le ↦ omega (arith, more, le)
        ]
      ] in
      a.begins ∙ (ap (λ u. u + blocking u) same ∙ sym b.begins)

  one_first : (t r s : ℕ) → IsFirstShared may own pitch blocking t r → IsFirstShared may own pitch blocking t s → r ≡ s
  one_first t r s (inl a) (inl b) = a.1 ∙ sym b.1
  one_first t r s (inl a) (inr b) = absurd (both_ways _ b.0 a.0)
  one_first t r s (inr a) (inl b) = absurd (both_ways _ a.0 b.0)
  one_first t r s (inr a) (inr b) = one_window t r s a.1 b.1

  one_next : (t r s : ℕ) → IsNextShared may own pitch blocking t r → IsNextShared may own pitch blocking t s → r ≡ s
  one_next t r s (inl a) (inl b) = a.1 ∙ sym b.1
  one_next t r s (inl a) (inr b) = absurd (both_ways _ b.0 a.0)
  one_next t r s (inr a) (inl b) = absurd (both_ways _ a.0 b.0)
  one_next t r s (inr a) (inr b) = one_window t r s a.1 b.1

  pub one_slot : (t n r s : ℕ) → IsSlot t n r → IsSlot t n s → r ≡ s
  one_slot t zero r s a b = one_first t r s a b
  one_slot t (suc n) r s a b =
      let same = one_slot t n a.0 b.0 a.1 b.1 in
      one_next b.0 r s (subst (λ q. IsNextShared may own pitch blocking q r) same a.2) b.2

  pub next_after : (r s : ℕ) → IsNextShared may own pitch blocking r s → r ≤ s
  next_after r s (inl a) = (let is = a.1 in omega (arith, is))
  next_after r s (inr a) = (let w = a.1 in let after = w.after in let is = w.begins in omega (arith, after, is))

  first_after : (t s : ℕ) → IsFirstShared may own pitch blocking t s → t ≤ s
  first_after t s (inl a) = (let is = a.1 in omega (arith, is))
  first_after t s (inr a) = (let w = a.1 in let after = w.after in let is = w.begins in omega (arith, after, is))

  pub slot_after : (t n s : ℕ) → IsSlot t n s → t ≤ s
  slot_after t zero s h = first_after t s h
  slot_after t (suc n) s h = (let a = slot_after t n h.0 h.1 in let b = next_after h.0 s h.2 in omega (arith, a, b))

  before : (t n j m s : ℕ) → m ≡ n + j → IsSlot t m s → (r : ℕ) × IsSlot t n r × (r ≤ s)
  before t n zero m s e h = (let same : m ≡ n = omega (arith, e) in (s, subst (λ k. IsSlot t k s) same h, le_refl s))
  before t n (suc j) m s e h =
      let same : m ≡ suc (n + j) = omega (arith, e) in
      let l = subst (λ k. IsSlot t k s) same h in
      let up = next_after l.0 s l.2 in
      let b = before t n j (n + j) l.0 refl l.1 in
      let le = b.2 in
      (b.0, b.1, omega (arith, up, le))

  -- one behind fewer others is no later
  pub slots_rise : (t n m r s : ℕ) → n ≤ m → IsSlot t n r → IsSlot t m s → r ≤ s
  slots_rise t n m r s le a b =
      let w = before t n (m - n) m s (omega (arith, le)) b in
      let same = one_slot t n w.0 r w.1 a in
      let up = w.2 in
      omega (arith, same, up)
