-- A cursor over the words of a line.
use Rattle.std.specs.Prelude.{◌≡◌, ℕ, ◌+◌, ◌≤◌, List, length}
use Rattle.text.specs.declared.words.cursor.Words.{Words}
use Rattle.text.specs.WordsLeft.{words_left, words_taken}

-- a word is octets
abbrev pub Word : Type 0
Word = List ℕ

-- how many words the line has
abbrev pub total : Words → ℕ
total w = words_taken w + length (words_left w)

-- words were taken, none lost
abbrev pub Moves : Words → Words → Type 0
Moves old new = (total new ≡ total old) × (words_taken old ≤ words_taken new)
