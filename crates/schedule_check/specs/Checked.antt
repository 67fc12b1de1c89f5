-- What is reported of the lines of schedule commands, and the fault that ends them.
use Rattle.std.specs.Prelude.{List, ℕ, [], ◌∷◌, ◌++◌, Bool, true, false, Some, None, Result, Ok, Err, codes, if◌then◌else◌}
use Rattle.std.specs.Str.{bytes_eq}
use Rattle.text.specs.Words.{words_of}
use Rattle.text.specs.Script.{Script, End, Broken, Line, script_of}
use Rattle.abstract_port.specs.declared.Command.{Command}
use Rattle.port_text.specs.declared.tc_reader.fault.TcFault.{TcFault}
use Rattle.script.specs.Requests.{is_comment}
use Rattle.job.specs.Outcome.{Outcome}
use Rattle.script.specs.Outcome.{bad_line, long_line}
use Rattle.script.specs.declared.faults.BadLine.{BadLine}
use Rattle.script.specs.declared.faults.ScriptFault.{ScriptFault}
use Rattle.script.specs.declared.faults.ScriptFault.TheVariants.{UnknownLine}
use Rattle.script.specs.ScriptEnd.{Whole}
use Rattle.schedule_check.specs.Apart.{verdict_lines}
use Rattle.schedule_check.specs.Windows.{Teller}
use Rattle.schedule_check.specs.declared.settings.CheckSettings.{CheckSettings}

-- whether the words of a line begin with tc; a line without words and a comment are skipped; other lines are passed over where they are those
-- of a script, and else there are none
abbrev pub is_command : Bool → List (List ℕ) → Result Bool ScriptFault
is_command script [] = Ok false
is_command script (w ∷ ws) = if is_comment w then Ok false else if bytes_eq w (codes "tc") then Ok true else if script then Ok false else Err UnknownLine

-- a line before what is reported of the rest
abbrev pub with_verdict : ℕ → Result Bool ScriptFault → List ℕ → Outcome BadLine → Outcome BadLine
with_verdict number (Err fault) verdict rest = record { text = []; fault = Some (bad_line number fault) }
with_verdict number (Ok false) verdict rest = rest
with_verdict number (Ok true) verdict rest = record { text = verdict ++ rest.text; fault = rest.fault }

-- what is reported of lines, by what is reported of each that begins with tc
abbrev pub checked_in : Bool → (List (List ℕ) → Result Command TcFault) → (Result Command TcFault → List ℕ) → Script → Outcome BadLine
checked_in script read told End = record { text = []; fault = None }
checked_in script read told (Broken number limit) = record { text = []; fault = Some (long_line number limit) }
checked_in script read told (Line number octets rest) =
    with_verdict number (is_command script (words_of octets)) (told (read (words_of octets))) (checked_in script read told rest)

-- what is reported of the octets of an input
abbrev pub checked_of : Bool → (List (List ℕ) → Result Command TcFault) → (Result Command TcFault → List ℕ) → List ℕ → Outcome BadLine
checked_of script read told input = checked_in script read told (script_of input)

-- what is reported of the octets of an input by settings, as what is to be written
abbrev pub whole_check : Teller → CheckSettings → Whole
whole_check tell s read input = checked_of s.script read (verdict_lines tell s) input
