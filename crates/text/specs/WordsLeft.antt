-- A line's words as a cursor over them has them.
use Rattle.std.specs.Prelude.{◌≡◌, ◌+◌, List, ℕ}
use Rattle.text.specs.Numbers.{FirstIsNumber}
use Rattle.text.specs.Words.{words_of}
use Rattle.text.specs.declared.words.cursor.Words.{Words}

-- the words that are still to come
abbrev pub words_left : Words → List (List ℕ)
words_left w = words_of w.rest.now

-- how many words were taken
abbrev pub words_taken : Words → ℕ
words_taken w = w.place

-- the next word is taken, and is a number
pub record TakesNumber (old new : Words) (n : ℕ) : Type 0 where
  pub first : FirstIsNumber (words_left old) n (words_left new)
  pub taken : words_taken new ≡ words_taken old + 1
