-- What a line reader has left.
use Rattle.std.specs.Prelude.{◌≡◌, ◌<◌, ◌+◌, ◌-◌, ◌++◌, List, ℕ, [], Option, Some, None, Result, Ok, Err, ⊤, Bool, true, false, option_map, length, get_or, take, if◌then◌else◌}
use Rattle.text.specs.Source.{octets_left, ahead}
use Rattle.text.specs.Script.{Script, Progress, End, Broken, Line, fresh, joins, script_from}
use Rattle.text.specs.PhysicalLines.{is_unbroken}
use Rattle.text.specs.LineEnds.{answer_of}
use Rattle.text.specs.declared.line_reader.lines.LineReader.{LineReader}
use Rattle.text.specs.declared.line_reader.lines.LineFault.{LineFault}
use Rattle.text.specs.declared.line_reader.lines.LineFault.TheVariants.{Limit, Read}
use Rattle.text.specs.declared.line_reader.lines.TheConstants.{MAX_LINES}

-- the line that a reader stands at
abbrev pub current_line : {R A : Type 0} → LineReader R A → List ℕ
current_line r = r.line.items

-- the number of its first physical line
abbrev pub current_number : {R A : Type 0} → LineReader R A → ℕ
current_number r = r.first

-- how its lines ended, if they did
abbrev pub how_ended : {R A : Type 0} → LineReader R A → Option (Result (Unit {0}) LineFault)
how_ended r = r.ended

-- what was read and is in no line yet
abbrev pub in_hand : {R A : Type 0} → LineReader R A → List ℕ
in_hand r = ahead r.source

-- so many octets are a whole line, and the line feed after them ends it
pub record EndsLine (octets : List ℕ) (n : ℕ) : Type 0 where
  pub within : n < length octets
  pub ended : get_or octets n 0 ≡ 10
  pub unbroken : is_unbroken (take n octets) ≡ true
  pub unjoined : joins (take n octets) ≡ false

-- the input has ended, and there is no line
abbrev pub IsAtEnd : {R A : Type 0} → LineReader R A → Type 0
IsAtEnd r = (r.source.ended ≡ true) × (r.line.items ≡ [])

-- what is read of a line so far
abbrev pub progress_of : {R A : Type 0} → LineReader R A → Progress
progress_of r = record { octets = r.line.items; first = r.first; breaks = r.breaks }

-- within a line: what the octets so far and those to come are
abbrev pub script_within : {R A : Type 0} → (R → Option (List ℕ)) → LineReader R A → Option Script
script_within remaining r = option_map (script_from (progress_of r)) (octets_left remaining r.source)

-- between lines: the lines to come, where the reader says
abbrev pub script_ahead : {R A : Type 0} → (R → Option (List ℕ)) → LineReader R A → Option Script
script_ahead remaining r = option_map (script_from (fresh r.breaks)) (octets_left remaining r.source)

-- after an answer: at a failed read the line so far and what was to come
abbrev pub script_behind : {R A : Type 0} → (R → Option (List ℕ)) → Result Bool LineFault → LineReader R A → Option Script
script_behind remaining (Ok true) r = script_ahead remaining r
script_behind remaining (Ok false) r = Some End
script_behind remaining (Err (Limit number limit)) r = Some (Broken number limit)
script_behind remaining (Err Read) r = script_within remaining r

-- the lines to come, by how the reader ended, if it has
abbrev pub script_after : {R A : Type 0} → (R → Option (List ℕ)) → Option (Result (Unit {0}) LineFault) → LineReader R A → Option Script
script_after remaining None r = script_ahead remaining r
script_after remaining (Some ended) r = script_behind remaining (answer_of ended) r

-- the lines to come, where the reader says
abbrev pub script_left : {R A : Type 0} → (R → Option (List ℕ)) → LineReader R A → Option Script
script_left remaining r = script_after remaining r.ended r

-- the octets in hand in which lines may be passed, by how the lines ended, if they did
abbrev pub hand_by : Option (Result (Unit {0}) LineFault) → List ℕ → List ℕ
hand_by None octets = octets
hand_by (Some ended) octets = []

-- those octets: none once the lines have ended
abbrev pub hand : {R A : Type 0} → LineReader R A → List ℕ
hand r = hand_by r.ended (in_hand r)

-- how many more physical lines there may be
abbrev pub lines_left : {R A : Type 0} → LineReader R A → ℕ
lines_left r = MAX_LINES - r.breaks

-- the lines to come once so many more are passed and these octets are left in hand, where the lines haven't ended
abbrev pub script_from_hand : {R A : Type 0} → (R → Option (List ℕ)) → LineReader R A → List ℕ → ℕ → Option Script
script_from_hand remaining r octets lines = option_map (script_from (fresh (r.breaks + lines))) (option_map (λ xs. octets ++ (if r.source.ended then [] else xs)) (remaining r.source.reader))

-- the same, by how they ended, if they did: then nothing is passed
abbrev pub past_by : {R A : Type 0} → Option (Result (Unit {0}) LineFault) → (R → Option (List ℕ)) → LineReader R A → List ℕ → ℕ → Option Script
past_by None remaining r octets lines = script_from_hand remaining r octets lines
past_by (Some ended) remaining r octets lines = script_left remaining r

-- the lines to come once so many lines are passed and these octets are left in hand
abbrev pub script_past : {R A : Type 0} → (R → Option (List ℕ)) → LineReader R A → List ℕ → ℕ → Option Script
script_past remaining r octets lines = past_by r.ended remaining r octets lines

-- a call that goes on to the next line, and then the reader's line and its number; a failed read loses nothing
abbrev pub Advances : Option Script → Result Bool LineFault → ℕ → List ℕ → Option Script → Type 0
Advances None r number line new = ⊤
Advances (Some script) (Ok true) number line new = (rest : Script) × (new ≡ Some rest) × (script ≡ Line number line rest)
Advances (Some script) (Ok false) number line new = script ≡ End
Advances (Some script) (Err (Limit number limit)) n line new = script ≡ Broken number limit
Advances (Some script) (Err Read) n line new = new ≡ Some script

-- how many more lines there can be
abbrev pub most_lines : {R A : Type 0} → LineReader R A → ℕ
most_lines r = (MAX_LINES - r.breaks) + (if r.source.ended then 0 else 1)
