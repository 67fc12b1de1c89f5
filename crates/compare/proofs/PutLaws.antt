-- A list that is put behind another, one by one: what is there, and what is to come, is all.
use Rattle.std.proofs.Common.{◌≡◌, List, [], ◌∷◌, ◌++◌, sym, ap, ◌∙◌, append_assoc}

module _ {A : Type 0} (whole now : List A) where
  -- one more is put
  pub put_more : (x : A) (left rest : List A) → now ++ left ≡ whole → left ≡ x ∷ rest → (now ++ x ∷ []) ++ rest ≡ whole
  put_more x left rest e f = append_assoc now (x ∷ []) rest ∙ sym (ap (λ (l : List A). now ++ l) f) ∙ e

  -- one is passed over
  pub put_none : (left rest : List A) → now ++ left ≡ whole → left ≡ rest → now ++ rest ≡ whole
  put_none left rest e f = sym (ap (λ (l : List A). now ++ l) f) ∙ e
