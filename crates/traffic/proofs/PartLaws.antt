-- The parts at a line's end, one after another.
use Rattle.std.proofs.Common.{◌≡◌, ℕ, List, [], ◌∷◌, Bool, true, false, cond, Option, Some, None, refl, ap, ◌∙◌}
use Rattle.std.specs.Prelude.{◌&&◌, MatchOption, is_none, is_some, not}
use Rattle.std.specs.Str.{bytes_eq}
use Rattle.traffic.specs.Words.{are_parts, is_part, value_of}

no_part : (name : List ℕ) → value_of name [] ≡ None
unfolding value_of
no_part name = refl

one_word : (name w : List ℕ) → value_of name (w ∷ []) ≡ None
unfolding value_of
one_word name w = refl

one_part : (name w value : List ℕ) (ws : List (List ℕ)) → value_of name (w ∷ value ∷ ws) ≡ cond (bytes_eq w name) (Some value) (value_of name ws)
unfolding value_of
one_part name w value ws = refl

-- no part is left, or a name alone
pub none_of : (name : List ℕ) (all : List (List ℕ)) → all ≡ [] → value_of name all ≡ None
none_of name all e = ap (value_of name) e ∙ no_part name

pub none_behind : (name w : List ℕ) (all rest : List (List ℕ)) → all ≡ w ∷ rest → rest ≡ [] → value_of name all ≡ None
none_behind name w all rest e f = ap (value_of name) (e ∙ ap (λ ws. w ∷ ws) f) ∙ one_word name w

-- a part of this name, or of another
pub this_part : (name w value : List ℕ) (all rest ws : List (List ℕ)) → all ≡ w ∷ rest → rest ≡ value ∷ ws → bytes_eq w name ≡ true → value_of name all ≡ Some value
this_part name w value all rest ws e f is = ap (value_of name) (e ∙ ap (λ xs. w ∷ xs) f) ∙ one_part name w value ws ∙ ap (λ t. cond t (Some value) (value_of name ws)) is

pub other_part : (name w value : List ℕ) (all rest ws : List (List ℕ)) → all ≡ w ∷ rest → rest ≡ value ∷ ws → bytes_eq w name ≡ false → value_of name all ≡ value_of name ws
other_part name w value all rest ws e f is = ap (value_of name) (e ∙ ap (λ xs. w ∷ xs) f) ∙ one_part name w value ws ∙ ap (λ t. cond t (Some value) (value_of name ws)) is

no_parts : are_parts [] ≡ true
unfolding are_parts
no_parts = refl

lone_word : (w : List ℕ) → are_parts (w ∷ []) ≡ false
unfolding are_parts
lone_word w = refl

first_part : (w value : List ℕ) (ws : List (List ℕ)) → are_parts (w ∷ value ∷ ws) ≡ (is_part w && is_none (value_of w ws) && are_parts ws)
unfolding are_parts
first_part w value ws = refl

-- no part is left
pub all_parts : (all : List (List ℕ)) → all ≡ [] → are_parts all ≡ true
all_parts all e = ap are_parts e ∙ no_parts

-- a name alone
pub no_value : (w : List ℕ) (all rest : List (List ℕ)) → all ≡ w ∷ rest → rest ≡ [] → are_parts all ≡ false
no_value w all rest e f = ap are_parts (e ∙ ap (λ ws. w ∷ ws) f) ∙ lone_word w

-- a part before others, by whether it has a name, and that name isn't said again
pub part_first : (w value : List ℕ) (all rest ws : List (List ℕ)) (t u : Bool) → all ≡ w ∷ rest → rest ≡ value ∷ ws → is_part w ≡ t → is_none (value_of w ws) ≡ u → are_parts all ≡ (t && u && are_parts ws)
part_first w value all rest ws t u e f is none = ap are_parts (e ∙ ap (λ xs. w ∷ xs) f) ∙ first_part w value ws ∙ ap (λ b. b && is_none (value_of w ws) && are_parts ws) is ∙ ap (λ b. t && b && are_parts ws) none

-- whether a value is found
pub is_said : {V : Type 0} (f : V → List ℕ) (found : Option V) (value : Option (List ℕ)) (t : Bool) → MatchOption found (value ≡ None) (λ v. value ≡ Some (f v)) → is_some found ≡ t → is_none value ≡ not t
is_said f None value false h e = ap is_none h
is_said f None value true h e = absurd cc
is_said f (Some v) value true h e = ap is_none h
is_said f (Some v) value false h e = absurd cc
