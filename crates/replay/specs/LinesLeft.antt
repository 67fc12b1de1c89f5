-- The lines of a kept script that are still to come.
use Rattle.std.specs.Prelude.{◌≡◌, List, ℕ, [], ◌∷◌, Option, Some, None, Result, drop}
use Rattle.abstract_port.specs.declared.Command.{Command}
use Rattle.port_text.specs.declared.tc_reader.fault.TcFault.{TcFault}
use Rattle.replay.specs.KeptScript.{kept_request, kept_requests}
use Rattle.replay.specs.Merge.{Timed, lines_by, lines_past, requests_of, timed_from}
use Rattle.replay.specs.declared.cursor.Cursor.{Cursor}
use Rattle.replay.specs.declared.kept_script.KeptLine.{KeptLine}
use Rattle.replay.specs.declared.kept_script.KeptScript.{KeptScript}

-- each with the greatest clock number up to it
abbrev pub lines_left : {A : Type 0} → (List (List ℕ) → Result Command TcFault) → KeptScript A → Cursor → List Timed
lines_left read script cursor = timed_from cursor.clock (drop cursor.at (kept_requests read script.octets.items script.lines.items))

-- The first of the lines up to a moment is taken, and the others are still to come; or there is none, and nothing is taken.
abbrev pub GivesLine : {A : Type 0} → (List (List ℕ) → Result Command TcFault) → KeptScript A → ℕ → Option KeptLine → Cursor → Cursor → Type 0
GivesLine read script upto None old new =
    (new ≡ old) × (requests_of (lines_by upto (lines_left read script old)) ≡ []) × (lines_past upto (lines_left read script old) ≡ lines_left read script old)
GivesLine read script upto (Some line) old new =
    (requests_of (lines_by upto (lines_left read script old)) ≡ kept_request read script.octets.items line ∷ requests_of (lines_by upto (lines_left read script new)))
    × (lines_past upto (lines_left read script old) ≡ lines_past upto (lines_left read script new))
