-- The first octets of an input.
use Rattle.std.proofs.Common.{◌≡◌, ◌⊎◌, ℕ, ◌<◌, List, [], ◌∷◌, ◌++◌, length, Option, Some, None, Ok, inl, inr, refl, sym, ap, ◌∙◌, subst, append_assoc, append-nil, arith, lit<}
use Rattle.std.specs.Prelude.{nat_le, slice_index, ◌&&◌}
use Rattle.std.proofs.Math.ListN.{get_or-append}
use Rattle.std.proofs.lemmas.Bool.{le-leb}
use Rattle.std.proofs.lemmas.List.{length-append}
use Rattle.text.specs.Source.{TakesOctet}
use Rattle.job.specs.declared.fault.Fault.{Fault}
use Rattle.compare.specs.Frames.{begins_capture, is_magic}
use Rattle.compare.specs.declared.faults.Trouble.{Trouble}
use Rattle.compare.specs.Read.{IsFront}

-- what was read so far stands in front of what is to come
abbrev pub Ahead : Option (List ℕ) → List ℕ → Option (List ℕ) → Type 0
Ahead None front new = Unit {0}
Ahead (Some octets) front new = (rest : List ℕ) × (new ≡ Some rest) × (octets ≡ front ++ rest)

pub begun : (known : Option (List ℕ)) → Ahead known [] known
begun None = tt
begun (Some octets) = (octets, refl, refl)

-- one octet more
pub one_more : (known now after : Option (List ℕ)) (front next : List ℕ) (octet : ℕ) → Ahead known front now → TakesOctet {E = Fault Trouble} now (Ok (Some octet)) after → next ≡ front ++ octet ∷ [] → Ahead known next after
one_more None now after front next octet a t n = tt
one_more (Some octets) now after front next octet (rest, is, parts) t n =
    let P : Option (List ℕ) → Type 0 = λ o. TakesOctet {E = Fault Trouble} o (Ok (Some octet)) after in
    let taken = subst P is t in
    let Q : List ℕ → Type 0 = λ xs. Ahead (Some octets) xs after in
    subst Q (sym n) (taken.0, taken.1, parts ∙ ap (λ (xs : List ℕ). front ++ xs) taken.2 ∙ sym (append_assoc front (octet ∷ []) taken.0))

-- there are enough
pub enough : (known now : Option (List ℕ)) (front : List ℕ) → Ahead known front now → length front ≡ 4 → IsFront known front now
enough None now front a e = tt
enough (Some octets) now front a e = record { rest = a.0; known = a.1; parts = a.2; enough = inl e }

-- the input ends
pub ended : (known now after : Option (List ℕ)) (front : List ℕ) → Ahead known front now → TakesOctet {E = Fault Trouble} now (Ok None) after → IsFront known front after
ended None now after front a t = tt
ended (Some octets) now after front (rest, is, parts) t =
    let P : Option (List ℕ) → Type 0 = λ o. TakesOctet {E = Fault Trouble} o (Ok None) after in
    let taken = subst P is t in
    record { rest = []; known = taken.1; parts = parts ∙ ap (λ (xs : List ℕ). front ++ xs) taken.0; enough = inr refl }

-- 2. What they tell

same_if : (front rest : List ℕ) → length front ≡ 4 → begins_capture (front ++ rest) ≡ begins_capture front
same_if front rest four =
    let long : nat_le 4 (length (front ++ rest)) ≡ nat_le 4 (length front) = le-leb 4 (length (front ++ rest)) (omega (arith, length-append front rest, four)) ∙ sym (le-leb 4 (length front) (omega (arith, four))) in
    let at : (n : ℕ) → n < 4 → slice_index (front ++ rest) n ≡ slice_index front n = λ n short. get_or-append front rest 0 n (omega (arith, four, short)) in
    let zero = at 0 (lit< tt) in
    let one = at 1 (lit< tt) in
    let two = at 2 (lit< tt) in
    let three = at 3 (lit< tt) in
    λ i. long i && is_magic (zero i) (one i) (two i) (three i)

-- four octets, or all of them, tell a capture from a table
pub same_begin : (octets front rest : List ℕ) → octets ≡ front ++ rest → (length front ≡ 4) ⊎ (rest ≡ []) → begins_capture octets ≡ begins_capture front
same_begin octets front rest parts (inl four) = ap begins_capture parts ∙ same_if front rest four
same_begin octets front rest parts (inr none) = ap begins_capture (parts ∙ ap (λ (xs : List ℕ). front ++ xs) none ∙ append-nil front)
