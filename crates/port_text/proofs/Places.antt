-- The text of a list from a place on.
use Rattle.std.proofs.Common.{◌≡◌, ℕ, ◌+◌, ◌<◌, ◌≤◌, inl, inr, List, [], ◌++◌, length, take, drop, Some, None, sym, ap, ◌∙◌, arith}
use Rattle.std.specs.List.{flat_map, slice_get}
use Rattle.std.proofs.Math.ListN.{drop_of_length-le}
use Rattle.std.proofs.lemmas.List.{at_drop_more, get_or-take, length-take}
use Rattle.std.proofs.lemmas.Option.{slice_get_within, get_or_from_slice_get, slice_get-get_or, slice_get_cases}

pub text_at : {A : Type 0} (f : A → List ℕ) (xs : List A) (i : ℕ) (x : A) → slice_get xs i ≡ Some x → flat_map f (drop i xs) ≡ f x ++ flat_map f (drop (i + 1) xs)
text_at f xs i x e =
    at_drop_more (flat_map f) xs i x (slice_get_within xs i x e) ∙ ap (λ y. f y ++ flat_map f (drop (i + 1) xs)) (get_or_from_slice_get xs i x x e)

pub none_past : {A : Type 0} (xs : List A) (i : ℕ) → slice_get xs i ≡ None → length xs ≤ i
none_past xs i e = elim (slice_get_cases xs i).1 [
  | inl some ↦ absurd (let is = some.2 in cc)
  | inr past ↦ past.0
]

pub nothing_at : {A : Type 0} (f : A → List ℕ) (xs : List A) (i : ℕ) → length xs ≤ i → flat_map f (drop i xs) ≡ flat_map f (drop (i + 1) xs)
nothing_at f xs i past = ap (flat_map f) (drop_of_length-le xs past ∙ sym (drop_of_length-le xs (omega arith)))

-- an item of a list stands at its place in a prefix that is long enough
pub get_in_front : {A : Type 0} (n : ℕ) (xs : List A) (i : ℕ) (x : A) → i < n → slice_get xs i ≡ Some x → slice_get (take n xs) i ≡ Some x
get_in_front n xs i x h e =
    let within = slice_get_within xs i x e in
    slice_get-get_or (take n xs) i x (omega (arith, length-take n xs)) ∙ ap Some (get_or-take n xs i x h ∙ get_or_from_slice_get xs i x x e)

pub none_in_front : {A : Type 0} (n : ℕ) (xs : List A) (i : ℕ) → slice_get xs i ≡ None → length (take n xs) ≤ i
none_in_front n xs i e = let past = none_past xs i e in omega (arith, length-take n xs)

pub nothing_from : {A : Type 0} (f : A → List ℕ) (xs : List A) (i : ℕ) → length xs ≤ i → flat_map f (drop i xs) ≡ []
nothing_from f xs i past = ap (flat_map f) (drop_of_length-le xs past)
