-- Where a translation by lines stands.
use Rattle.std.specs.Prelude.{◌≡◌, ◌++◌, ℕ, List, drop}
use Rattle.pasted.specs.Lines.{Rule}
use Rattle.pasted.specs.Reading.{reading}
use Rattle.pasted.specs.declared.lines.Lines.{Lines}

-- what is still to come comes out as
abbrev pub meaning_by : {L : Type 0} → (L → Rule) → Lines L → List ℕ → List ℕ
meaning_by rule lines octets = reading (rule lines.turner) lines.place lines.long octets

-- So many octets were taken, and others put for them, whatever comes later.
abbrev pub IsTaken : {L : Type 0} → (L → Rule) → Lines L → Lines L → List ℕ → ℕ → List ℕ → Type 0
IsTaken rule old new octets count put = (later : List ℕ) → meaning_by rule old (octets ++ later) ≡ put ++ meaning_by rule new (drop count octets ++ later)
