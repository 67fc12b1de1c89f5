-- The first that is answered about the elements of a list, one element after another.
use Rattle.std.proofs.Common.{◌≡◌, ◌<◌, ◌≤◌, ℕ, ◌+◌, List, [], ◌∷◌, length, drop, get_or, Option, Some, None, Bool, true, false, cond, refl, sym, ap, ◌∙◌}
use Rattle.std.proofs.lemmas.List.{at_drop_all, at_drop_more}
use Rattle.std.specs.Str.{bytes_eq}
use Rattle.network.specs.Network.{first_of, option_or_else, place_from}

module _ {X Y : Type 0} (f : X → Option Y) where
  none_of : first_of f [] ≡ None
  unfolding first_of
  none_of = refl

  one_of : (x : X) (xs : List X) → first_of f (x ∷ xs) ≡ option_or_else (f x) (first_of f xs)
  unfolding first_of
  one_of x xs = refl

  -- nothing is answered about one
  pub first_more : (xs : List X) (i : ℕ) (d : X) (all : Option Y) → i < length xs → f (get_or xs i d) ≡ None → first_of f (drop i xs) ≡ all → first_of f (drop (i + 1) xs) ≡ all
  first_more xs i d all less none so_far =
      sym (at_drop_more (first_of f) xs i d less ∙ one_of (get_or xs i d) (drop (i + 1) xs) ∙ ap (λ (o : Option Y). option_or_else o (first_of f (drop (i + 1) xs))) none) ∙ so_far

  -- something is
  pub first_here : (xs : List X) (i : ℕ) (d : X) (y : Y) (all : Option Y) → i < length xs → f (get_or xs i d) ≡ Some y → first_of f (drop i xs) ≡ all → Some y ≡ all
  first_here xs i d y all less some so_far =
      sym (at_drop_more (first_of f) xs i d less ∙ one_of (get_or xs i d) (drop (i + 1) xs) ∙ ap (λ (o : Option Y). option_or_else o (first_of f (drop (i + 1) xs))) some) ∙ so_far

  -- about none of them
  pub first_none : (xs : List X) (i : ℕ) (all : Option Y) → length xs ≤ i → first_of f (drop i xs) ≡ all → None ≡ all
  first_none xs i all over so_far = sym (at_drop_all (first_of f) xs i over ∙ none_of) ∙ so_far

-- ---- a name among those of ports

no_place : (place : ℕ) (name : List ℕ) → place_from place name [] ≡ None
unfolding place_from
no_place place name = refl

one_place : (place : ℕ) (name x : List ℕ) (xs : List (List ℕ)) → place_from place name (x ∷ xs) ≡ cond (bytes_eq x name) (Some place) (place_from (place + 1) name xs)
unfolding place_from
one_place place name x xs = refl

at_place : (names : List (List ℕ)) (i place : ℕ) (d name : List ℕ) (b : Bool) → i < length names → bytes_eq (get_or names i d) name ≡ b
    → place_from place name (drop i names) ≡ cond b (Some place) (place_from (place + 1) name (drop (i + 1) names))
at_place names i place d name b less is =
    at_drop_more (place_from place name) names i d less ∙ one_place place name (get_or names i d) (drop (i + 1) names)
    ∙ ap (λ (t : Bool). cond t (Some place) (place_from (place + 1) name (drop (i + 1) names))) is

pub place_more : (names : List (List ℕ)) (i place : ℕ) (d name : List ℕ) (all : Option ℕ) → i < length names → bytes_eq (get_or names i d) name ≡ false
    → place_from place name (drop i names) ≡ all → place_from (place + 1) name (drop (i + 1) names) ≡ all
place_more names i place d name all less is so_far = sym (at_place names i place d name false less is) ∙ so_far

pub place_here : (names : List (List ℕ)) (i place : ℕ) (d name : List ℕ) (all : Option ℕ) → i < length names → bytes_eq (get_or names i d) name ≡ true
    → place_from place name (drop i names) ≡ all → Some place ≡ all
place_here names i place d name all less is so_far = sym (at_place names i place d name true less is) ∙ so_far

pub place_none : (names : List (List ℕ)) (i place : ℕ) (name : List ℕ) (all : Option ℕ) → length names ≤ i → place_from place name (drop i names) ≡ all → None ≡ all
place_none names i place name all over so_far = sym (at_drop_all (place_from place name) names i over ∙ no_place place name) ∙ so_far
