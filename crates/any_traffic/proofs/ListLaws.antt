-- Places of lists.
use Rattle.std.proofs.Common.{◌≡◌, ◌<◌, ◌≤◌, ℕ, zero, suc, List, [], ◌∷◌, ◌++◌, length, slice_get, Some, refl, arith}
use Rattle.std.proofs.lemmas.Option.{slice_get_within}

-- an empty list has none
pub none_here : {X : Type 0} (k : ℕ) (x : X) → slice_get (let none : List X = [] in none) k ≡ Some x → ⊥
none_here zero x e = cc
none_here (suc k) x e = cc

-- one that is there
pub one_at : {X : Type 0} (xs : List X) (k : ℕ) → k < length xs → (x : X) × (slice_get xs k ≡ Some x)
one_at [] k less = absurd (omega (arith, less))
one_at (x ∷ xs) zero less = (x, refl)
one_at (x ∷ xs) (suc k) less = one_at xs k (omega (arith, less))

-- one that is before another
pub one_before : {X : Type 0} (xs : List X) (k m : ℕ) (x : X) → k ≤ m → slice_get xs m ≡ Some x → (y : X) × (slice_get xs k ≡ Some y)
one_before xs k m x le e = (let within = slice_get_within xs m x e in one_at xs k (omega (arith, le, within)))

-- where more stand behind
pub get_more : {X : Type 0} (xs ys : List X) (k : ℕ) (x : X) → slice_get xs k ≡ Some x → slice_get (xs ++ ys) k ≡ Some x
get_more [] ys k x e = absurd (none_here k x e)
get_more (y ∷ xs) ys zero x e = e
get_more (y ∷ xs) ys (suc k) x e = get_more xs ys k x e

pub get_last : {X : Type 0} (xs : List X) (x : X) → slice_get (xs ++ x ∷ []) (length xs) ≡ Some x
get_last [] x = refl
get_last (y ∷ xs) x = get_last xs x
