-- What is kept of the elements of a list, one element after another.
use Rattle.std.proofs.Common.{◌≡◌, ◌<◌, ◌≤◌, ℕ, ◌+◌, Bool, true, false, cond, List, [], ◌∷◌, ◌++◌, length, drop, map, get_or, sym, ap, ◌∙◌, append_assoc, append-nil}
use Rattle.std.proofs.lemmas.List.{at_drop_all, at_drop_more}
use Rattle.std.specs.List.{filter}

module _ {X Y : Type 0} (f : X → Y) where
  -- one more is taken over
  pub map_more : (xs : List X) (i : ℕ) (d : X) (kept all : List Y) → i < length xs → kept ++ map f (drop i xs) ≡ all
      → (kept ++ f (get_or xs i d) ∷ []) ++ map f (drop (i + 1) xs) ≡ all
  map_more xs i d kept all less so_far =
      append_assoc kept (f (get_or xs i d) ∷ []) (map f (drop (i + 1) xs))
      ∙ (sym (ap (λ ys. kept ++ ys) (at_drop_more (map f) xs i d less)) ∙ so_far)

  -- all are
  pub map_all : (xs : List X) (i : ℕ) (kept all : List Y) → length xs ≤ i → kept ++ map f (drop i xs) ≡ all → kept ≡ all
  map_all xs i kept all over so_far = sym (append-nil kept) ∙ (sym (ap (λ ys. kept ++ ys) (at_drop_all (map f) xs i over)) ∙ so_far)

module _ {X : Type 0} (p : X → Bool) where
  one : (x : X) (xs : List X) (b : Bool) → p x ≡ b → filter p (x ∷ xs) ≡ cond b (x ∷ filter p xs) (filter p xs)
  one x xs b is = ap (λ (c : Bool). cond c (x ∷ filter p xs) (filter p xs)) is

  -- one more passes
  pub kept_more : (xs : List X) (i : ℕ) (d : X) (kept all : List X) → i < length xs → p (get_or xs i d) ≡ true → kept ++ filter p (drop i xs) ≡ all
      → (kept ++ get_or xs i d ∷ []) ++ filter p (drop (i + 1) xs) ≡ all
  kept_more xs i d kept all less passes so_far =
      append_assoc kept (get_or xs i d ∷ []) (filter p (drop (i + 1) xs))
      ∙ (sym (ap (λ ys. kept ++ ys) (at_drop_more (filter p) xs i d less ∙ one (get_or xs i d) (drop (i + 1) xs) true passes)) ∙ so_far)

  -- one does not
  pub kept_same : (xs : List X) (i : ℕ) (d : X) (kept all : List X) → i < length xs → p (get_or xs i d) ≡ false → kept ++ filter p (drop i xs) ≡ all
      → kept ++ filter p (drop (i + 1) xs) ≡ all
  kept_same xs i d kept all less passes so_far =
      sym (ap (λ ys. kept ++ ys) (at_drop_more (filter p) xs i d less ∙ one (get_or xs i d) (drop (i + 1) xs) false passes)) ∙ so_far

  -- all are looked at
  pub kept_all : (xs : List X) (i : ℕ) (kept all : List X) → length xs ≤ i → kept ++ filter p (drop i xs) ≡ all → kept ≡ all
  kept_all xs i kept all over so_far = sym (append-nil kept) ∙ (sym (ap (λ ys. kept ++ ys) (at_drop_all (filter p) xs i over)) ∙ so_far)
