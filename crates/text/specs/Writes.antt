-- What a call that may fail leaves in a writer.
use Rattle.std.specs.Prelude.{◌≡◌, ◌<◌, List, ℕ, ◌++◌, length, Option, Result, MatchResult}
use Rattle.std.specs.Io.KnownBytes.{Appends}

-- of the text a prefix was appended, and `left` is still to come
pub record Sent (old new : Option (List ℕ)) (text left : List ℕ) : Type 0 where
  pub done : List ℕ
  pub appended : Appends old new done
  pub parts : text ≡ done ++ left

-- some front of the text was appended
abbrev pub AppendsFront : Option (List ℕ) → Option (List ℕ) → List ℕ → Type 0
AppendsFront old new text = (left : List ℕ) × Sent old new text left

-- a prefix of the text was appended, and not all of it
abbrev pub FallsShort : Option (List ℕ) → Option (List ℕ) → List ℕ → Type 0
FallsShort old new text = (left : List ℕ) × (0 < length left) × Sent old new text left

-- at Ok the whole text was appended, at Err a prefix of it and not all
abbrev pub Writes : {T E : Type 0} → Result T E → Option (List ℕ) → Option (List ℕ) → List ℕ → Type 0
Writes r old new text = MatchResult r (λ _. Appends old new text) (λ _. FallsShort old new text)
