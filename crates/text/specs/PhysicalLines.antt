-- Lines as they are spelled.
use Rattle.std.specs.Prelude.{◌≡◌, ◌≤◌, ◌<◌, ◌+◌, ◌==◌, not, Bool, List, ℕ, [], ◌∷◌, ◌++◌, true, false, length, if◌then◌else◌}
use Rattle.std.specs.List.{list_all}
use Rattle.text.specs.Script.{Script, End, Line, joins, script_of}
use Rattle.text.specs.declared.line_reader.lines.TheConstants.{MAX_LINE_OCTETS, MAX_LINES}

-- a physical line to which the next one is joined: what stands before the backslash, and whether a CR stands after it
pub record JoinedLine : Type 0 where
  pub front : List ℕ
  pub has_cr : Bool

-- a line: the physical lines that are joined, and the last one
pub record SpelledLine : Type 0 where
  pub joined : List JoinedLine
  pub last : List ℕ

-- the octets of a physical line up to its line feed
abbrev pub joined_text : JoinedLine → List ℕ
joined_text j = j.front ++ (if j.has_cr then 92 ∷ 13 ∷ [] else 92 ∷ [])

-- those of joined physical lines, each with its line feed
abbrev pub front_text : List JoinedLine → List ℕ
front_text [] = []
front_text (j ∷ js) = joined_text j ++ (10 ∷ front_text js)

-- the octets of a line up to the line feed that ends it
abbrev pub line_text : SpelledLine → List ℕ
line_text line = front_text line.joined ++ line.last

-- there is no line feed among the octets
abbrev pub is_unbroken : List ℕ → Bool
is_unbroken octets = list_all (λ octet. not (octet == 10)) octets

-- no line feed but those that join, no join at its end, and within the limit
pub record IsSpelled (line : SpelledLine) : Type 0 where
  pub fronts : list_all (λ j. is_unbroken j.front) line.joined ≡ true
  pub last : is_unbroken line.last ≡ true
  pub unjoined : joins (line_text line) ≡ false
  pub short : length (line_text line) ≤ MAX_LINE_OCTETS

-- each line is spelled as a line can be
abbrev pub AreSpelled : List SpelledLine → Type 0
AreSpelled [] = Unit {0}
AreSpelled (line ∷ rest) = IsSpelled line × AreSpelled rest

-- each line with a line feed after it
abbrev pub spelled : List SpelledLine → List ℕ
spelled [] = []
spelled (line ∷ rest) = line_text line ++ (10 ∷ spelled rest)

-- how many line feeds a line has, its own and those that join it
abbrev pub physical_lines : SpelledLine → ℕ
physical_lines line = length line.joined + 1

-- how many line feeds the lines have together
abbrev pub all_physical_lines : List SpelledLine → ℕ
all_physical_lines [] = 0
all_physical_lines (line ∷ rest) = physical_lines line + all_physical_lines rest

-- the lines, each with the number of its first physical line, of which the first is given, and then what comes after them
abbrev pub numbered : ℕ → List SpelledLine → Script → Script
numbered number [] behind = behind
numbered number (line ∷ rest) behind = Line number (line_text line) (numbered (number + physical_lines line) rest behind)

-- Lines are read as they are spelled. The last one may end with the input in place of a line feed, if it has an octet.
pub record SpellingLaw : Type 0 where
  pub terminated : (lines : List SpelledLine) → AreSpelled lines → all_physical_lines lines ≤ MAX_LINES
      → script_of (spelled lines) ≡ numbered 1 lines End
  pub unterminated : (lines : List SpelledLine) (last : SpelledLine) → AreSpelled lines → IsSpelled last → 0 < length (line_text last)
      → all_physical_lines lines + physical_lines last ≤ MAX_LINES
      → script_of (spelled lines ++ line_text last) ≡ numbered 1 lines (Line (1 + all_physical_lines lines) (line_text last) End)
