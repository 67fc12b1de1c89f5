-- The octets that are still to come.
use Rattle.std.specs.Prelude.{◌≡◌, List, ℕ, [], ◌∷◌, ◌++◌, Option, Some, None, Result, Ok, Err, ⊤, take, drop, if◌then◌else◌, option_map}
use Rattle.text.specs.declared.line_reader.source.Source.{Source}

-- what was read and not taken yet
abbrev pub ahead : {R A : Type 0} → Source R A → List ℕ
ahead s = drop s.at (take s.filled s.chunk.items)

-- what is still to come, where the reader says
abbrev pub octets_left : {R A : Type 0} → (R → Option (List ℕ)) → Source R A → Option (List ℕ)
octets_left remaining s = option_map (λ xs. ahead s ++ (if s.ended then [] else xs)) (remaining s.reader)

-- a call that answers the next octet
abbrev pub TakesOctet : {E : Type 0} → Option (List ℕ) → Result (Option ℕ) E → Option (List ℕ) → Type 0
TakesOctet None r new = ⊤
TakesOctet (Some xs) (Ok None) new = (xs ≡ []) × (new ≡ Some [])
TakesOctet (Some xs) (Ok (Some octet)) new = (rest : List ℕ) × (new ≡ Some rest) × (xs ≡ octet ∷ rest)
TakesOctet (Some xs) (Err e) new = new ≡ Some xs
