-- Lines as most are written, at the front of octets.
use Rattle.std.specs.Prelude.{◌≡◌, ◌<◌, ◌≤◌, ◌∷◌, ◌++◌, [], ℕ, List, Bool, true, false, Some, Ok, Result, codes, length, not, take, ◌&&◌, ◌==◌}
use Rattle.std.specs.List.{list_all}
use Rattle.abstract_port.specs.declared.Event.{Event}
use Rattle.text.specs.LineReader.{EndsLine, hand, lines_left}
use Rattle.text.specs.declared.line_reader.lines.LineReader.{LineReader}
use Rattle.text.specs.declared.line_reader.lines.TheConstants.{MAX_LINE_OCTETS}
use Rattle.text.specs.Script.{joins}
use Rattle.text.specs.PhysicalLines.{is_unbroken}
use Rattle.text.specs.Words.{words_of}
use Rattle.script.specs.Requests.{said_in}
use Rattle.script.specs.declared.faults.ScriptFault.{ScriptFault}
use Rattle.script.specs.declared.script_line.Said.TheVariants as Says

-- what comes after the numbers of a frame
abbrev pub tag_text : Bool → List ℕ
tag_text true = codes " tagged"
tag_text false = []

-- octets that no line is broken or joined at: no LF, no CR and no backslash
abbrev pub is_plain : ℕ → Bool
is_plain octet = not (octet == 10) && not (octet == 13) && not (octet == 92)

-- octets that begin with words that ask an event, and a line feed after them
pub record BeginsWithEvent (event_of : List (List ℕ) → Result Event ScriptFault) (octets : List ℕ) (event : Event) (rest : List ℕ) : Type 0 where
  pub line : List ℕ
  pub parts : octets ≡ line ++ (10 ∷ rest)
  pub plain : list_all is_plain line ≡ true
  pub asks : event_of (words_of line) ≡ Ok event

-- octets that begin with a line that asks an event, and a line feed that ends it
pub record BeginsWithLine (octets : List ℕ) (event : Event) (rest : List ℕ) : Type 0 where
  pub line : List ℕ
  pub parts : octets ≡ line ++ (10 ∷ rest)
  pub unbroken : is_unbroken line ≡ true
  pub unjoined : joins line ≡ false
  pub says : said_in line ≡ Ok (Some (Says.Asked event))

-- the line of a command stands whole in front of the octets in hand of a reader, and is within the limits
pub record IsCommandInHand {R A : Type 0} (r : LineReader R A) (line : List ℕ) : Type 0 where
  pub front : line ≡ take (length line) (hand r)
  pub ends : EndsLine (hand r) (length line)
  pub short : length line ≤ MAX_LINE_OCTETS
  pub left : 0 < lines_left r
  pub says : said_in line ≡ Ok (Some Says.Tc)

-- octets that begin with a line of so many octets, which asks an event
pub record HasLine (octets : List ℕ) (length : ℕ) (event : Event) : Type 0 where
  pub ends : EndsLine octets length
  pub says : said_in (take length octets) ≡ Ok (Some (Says.Asked event))
