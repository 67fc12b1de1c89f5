-- Whether a bound may be cut off, one bound after another.
use Rattle.std.specs.List.{list_any}
use Rattle.std.proofs.Common.{◌≡◌, ◌≤◌, ◌⊎◌, inl, inr, ◌<◌, ℕ, ◌+◌, ◌||◌, Bool, true, false, List, length, drop, get_or, Some, None, slice_get, sym, ap, ◌∙◌}
use Rattle.std.proofs.lemmas.List.{at_drop_all, at_drop_more}
use Rattle.std.proofs.lemmas.Option.{get_or_from_slice_get, none-some, slice_get_cases, slice_get_within}
use Rattle.delay_bounds.specs.declared.Bound.{Bound}
use Rattle.path_bounds.specs.Answers.{is_cut}

module _ (left : List Bound) (i : ℕ) (so_far : list_any is_cut (drop i left) ≡ list_any is_cut left) where
  next : (b : Bound) → slice_get left i ≡ Some b → list_any is_cut (drop i left) ≡ (is_cut b || list_any is_cut (drop (i + 1) left))
  next b e =
      at_drop_more (list_any is_cut) left i b (slice_get_within left i b e)
      ∙ ap (λ (x : Bound). is_cut x || list_any is_cut (drop (i + 1) left)) (get_or_from_slice_get left i b b e)

  -- one more isn't
  pub cut_more : (b : Bound) → slice_get left i ≡ Some b → is_cut b ≡ false → list_any is_cut (drop (i + 1) left) ≡ list_any is_cut left
  cut_more b e not = sym (next b e ∙ ap (λ (t : Bool). t || list_any is_cut (drop (i + 1) left)) not) ∙ so_far

  -- one is
  pub cut_here : (b : Bound) → slice_get left i ≡ Some b → is_cut b ≡ true → true ≡ list_any is_cut left
  cut_here b e is = sym (next b e ∙ ap (λ (t : Bool). t || list_any is_cut (drop (i + 1) left)) is) ∙ so_far

  -- none was
  pub cut_none : slice_get left i ≡ None → false ≡ list_any is_cut left
  cut_none none = by (slice_get_cases left i).1
    where
      by : ((b : Bound) × (i < length left) × (slice_get left i ≡ Some b) × (get_or left i b ≡ b)) ⊎ ((length left ≤ i) × (slice_get left i ≡ None))
          → false ≡ list_any is_cut left
      by (inl some) = absurd (none-some some.0 (sym none ∙ some.2))
      by (inr past) = sym (at_drop_all (list_any is_cut) left i past.0) ∙ so_far
