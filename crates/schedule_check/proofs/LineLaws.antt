-- One line of schedule commands before the rest.
use Rattle.std.proofs.Common.{◌≡◌, ℕ, Bool, List, Result, Ok, Err, true, false, ap}
use Rattle.schedule_check.specs.Words.{words_of, Command, TcFault, bad_line, checked_in, is_command}
use Rattle.text.specs.Script.{Script, Line}
use Rattle.job.specs.Outcome.{Outcome}
use Rattle.job.proofs.LineLaws.{behind, faulty}
use Rattle.script.specs.declared.faults.BadLine.{BadLine}
use Rattle.script.specs.declared.faults.ScriptFault.{ScriptFault}
use Rattle.schedule_check.specs.Checked.{with_verdict}

module _ (script : Bool) (read : List (List ℕ) → Result Command TcFault) (told : Result Command TcFault → List ℕ) where
  -- what is reported of lines; nothing is kept from one to the next
  abbrev pub checked : Unit {0} → Script → Outcome BadLine
  checked state lines = checked_in script read told lines

  module _ (number : ℕ) (line : List ℕ) where
    -- a line before the rest, by what it is
    by_command : (is : Result _ ScriptFault) → is_command script (words_of line) ≡ is → (rest : Script)
        → checked tt (Line number line rest) ≡ with_verdict number is (told (read (words_of line))) (checked tt rest)
    by_command is e rest = ap (λ x. with_verdict number x (told (read (words_of line))) (checked_in script read told rest)) e

    pub skipped : is_command script (words_of line) ≡ Ok false → (rest : Script) → checked tt (Line number line rest) ≡ checked tt rest
    skipped = by_command (Ok false)

    pub judged : is_command script (words_of line) ≡ Ok true → (rest : Script) → checked tt (Line number line rest) ≡ behind (told (read (words_of line))) (checked tt rest)
    judged = by_command (Ok true)

    pub wrong : (fault : ScriptFault) → is_command script (words_of line) ≡ Err fault → (rest : Script) → checked tt (Line number line rest) ≡ faulty (bad_line number fault)
    wrong fault = by_command (Err fault)
