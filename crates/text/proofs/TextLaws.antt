-- Texts that are compared by their first and their last eight octets.
use Rattle.std.proofs.Common.{◌≡◌, ◌≤◌, ◌-◌, ◌+◌, ℕ, List, length, get_or, take, drop, inl, inr, sym, ap, ◌∙◌, arith}
use Rattle.std.proofs.lemmas.Bool.{cases_lt}
use Rattle.std.proofs.lemmas.List.{ext_get_or, get_or-take, get_or-drop}

pub ends_same : (xs ys : List ℕ) (n : ℕ) → length xs ≡ n → length ys ≡ n → n ≤ 16 → 8 ≤ n → take 8 xs ≡ take 8 ys → drop (n - 8) xs ≡ drop (n - 8) ys → xs ≡ ys
ends_same xs ys n all same few some front back =
    ext_get_or 0 xs ys (all ∙ sym same) (λ i within.
    elim (cases_lt i 8) [
      | inl first ↦ sym (get_or-take 8 xs i 0 first) ∙ (ap (λ l. get_or l i 0) front ∙ get_or-take 8 ys i 0 first)
      | inr last ↦
          (let at : n - 8 + (i - (n - 8)) ≡ i = omega (arith) in
          ap (λ k. get_or xs k 0) (sym at)
          ∙ (sym (get_or-drop (n - 8) xs (i - (n - 8)) 0)
          ∙ (ap (λ l. get_or l (i - (n - 8)) 0) back
          ∙ (get_or-drop (n - 8) ys (i - (n - 8)) 0 ∙ ap (λ k. get_or ys k 0) at))))
    ])
