-- Laws of maps.
use Rattle.std.proofs.Common.{◌≡◌, ℕ, ◌<◌, ◌≤◌, ◌-◌, List, [], ◌∷◌, length, drop, Bool, true, false, ◌||◌, refl, arith, nat_le}
use Rattle.std.specs.Prelude.{All, replicate}
use Rattle.std.specs.List.{list_any, AllByRecursion}
use Rattle.std.proofs.lemmas.List.{drop-replicate}
use Rattle.std.proofs.lemmas.List.Elements.{All-append, All-replicate, All-from_recursion}
use Rattle.abstract_port.specs.Map.{filled}

pub filled_zeros : (n : ℕ) → drop {A = ℕ} n (0 ∷ 0 ∷ 0 ∷ 0 ∷ 0 ∷ 0 ∷ 0 ∷ 0 ∷ 0 ∷ 0 ∷ 0 ∷ 0 ∷ 0 ∷ 0 ∷ 0 ∷ 0 ∷ []) ≡ replicate (16 - n) 0
filled_zeros n = drop-replicate n 16 0

pub or_false : (a b : Bool) → (a || b) ≡ false → (a ≡ false) × (b ≡ false)
or_false true b h = (h, absurd (cc))
or_false false b h = (refl, h)

none_one_by_one : {X : Type 0} (p : X → Bool) (xs : List X) → list_any p xs ≡ false → AllByRecursion (λ x. p x ≡ false) xs
none_one_by_one p [] h = tt
none_one_by_one p (x ∷ xs) h = let both = or_false (p x) (list_any p xs) h in (both.0, none_one_by_one p xs both.1)

-- where no element passes a test, each fails it
pub none_pass : {X : Type 0} (p : X → Bool) (xs : List X) → list_any p xs ≡ false → All (λ x. p x ≡ false) xs
none_pass p xs h = All-from_recursion (λ x. p x ≡ false) xs (none_one_by_one p xs h)

-- classes that are in range are below 8, also those that fill up
pub filled_within : (num_tc : ℕ) (classes : List ℕ) → list_any (λ class. nat_le num_tc class) classes ≡ false → num_tc ≤ 8 → All (λ c. c < 8) (filled classes)
filled_within num_tc classes none few =
    let each : All (λ c. nat_le num_tc c ≡ false) classes = none_pass (λ c. nat_le num_tc c) classes none in
    All-append (λ c. c < 8) classes (replicate (16 - length classes) 0)
    (λ k d h. let over = each k d h in grind (arith, over))
    (All-replicate (λ c. c < 8) (16 - length classes) 0 (omega arith))
