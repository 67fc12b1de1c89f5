-- What is made of those elements of a list that pass, one element after another.
use Rattle.std.proofs.Common.{◌≡◌, ◌<◌, ◌≤◌, ℕ, ◌+◌, Bool, true, false, cond, List, [], ◌∷◌, ◌++◌, length, drop, map, get_or, sym, ap, ◌∙◌, append_assoc, append-nil}
use Rattle.std.proofs.lemmas.List.{at_drop_all, at_drop_more}
use Rattle.std.specs.List.{filter}

module _ {X Y : Type 0} (f : X → Y) (p : X → Bool) where
  abbrev Rest : List X → List Y
  Rest xs = map f (filter p xs)

  one : (x : X) (xs : List X) (b : Bool) → p x ≡ b → Rest (x ∷ xs) ≡ cond b (f x ∷ Rest xs) (Rest xs)
  one x xs true is = ap (λ (c : Bool). map f (cond c (x ∷ filter p xs) (filter p xs))) is
  one x xs false is = ap (λ (c : Bool). map f (cond c (x ∷ filter p xs) (filter p xs))) is

  -- one more passes
  pub picked_more : (xs : List X) (i : ℕ) (d : X) (kept all : List Y) → i < length xs → p (get_or xs i d) ≡ true
      → kept ++ map f (filter p (drop i xs)) ≡ all → (kept ++ f (get_or xs i d) ∷ []) ++ map f (filter p (drop (i + 1) xs)) ≡ all
  picked_more xs i d kept all less passes so_far =
      append_assoc kept (f (get_or xs i d) ∷ []) (Rest (drop (i + 1) xs))
      ∙ (sym (ap (λ ys. kept ++ ys) (at_drop_more Rest xs i d less ∙ one (get_or xs i d) (drop (i + 1) xs) true passes)) ∙ so_far)

  -- one does not
  pub picked_same : (xs : List X) (i : ℕ) (d : X) (kept all : List Y) → i < length xs → p (get_or xs i d) ≡ false
      → kept ++ map f (filter p (drop i xs)) ≡ all → kept ++ map f (filter p (drop (i + 1) xs)) ≡ all
  picked_same xs i d kept all less passes so_far =
      sym (ap (λ ys. kept ++ ys) (at_drop_more Rest xs i d less ∙ one (get_or xs i d) (drop (i + 1) xs) false passes)) ∙ so_far

  -- all are looked at
  pub picked_all : (xs : List X) (i : ℕ) (kept all : List Y) → length xs ≤ i → kept ++ map f (filter p (drop i xs)) ≡ all → kept ≡ all
  picked_all xs i kept all over so_far =
      sym (append-nil kept) ∙ (sym (ap (λ ys. kept ++ ys) (at_drop_all Rest xs i over)) ∙ so_far)
