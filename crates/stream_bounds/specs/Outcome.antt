-- What is written for a table of streams and schedules, and the fault that ends it.
--
-- The answers about the classes of a schedule are right where they keep to `AreClassAnswers`. What is written is then one text: `outcome_in`.
use Rattle.std.specs.Prelude.{ℕ, ◌≡◌, ◌==◌, List, [], ◌∷◌, ◌++◌, Bool, true, false, Option, Some, None, Result, Ok, Err, if◌then◌else◌}
use Rattle.text.specs.Words.{words_of}
use Rattle.text.specs.Script.{Script, End, Broken, Line, script_of}
use Rattle.abstract_port.specs.declared.Command.{Command}
use Rattle.job.specs.Outcome.{Outcome}
use Rattle.schedule_check.specs.Checked.{is_command}
use Rattle.script.specs.declared.faults.ScriptFault.{ScriptFault}
use Rattle.script.specs.declared.faults.ScriptFault.TheVariants.{BadNumber}
use Rattle.stream_bounds.specs.BoundLines.{AreCommandAnswers, command_answered, command_lines, first_of, joined, nothing_answered}
use Rattle.stream_bounds.specs.Faults.{limited_behind}
use Rattle.stream_bounds.specs.declared.faults.BoundsInput.{BoundsInput}
use Rattle.stream_bounds.specs.declared.faults.BoundsInput.TheVariants as Inputs
use Rattle.stream_bounds.specs.declared.faults.Finding.{Finding}
use Rattle.stream_bounds.specs.declared.faults.Finding.TheVariants as Findings
use Rattle.stream_bounds.specs.declared.faults.Answered.{Answered}
use Rattle.stream_bounds.specs.declared.settings.BoundsSettings.{BoundsSettings}
use Rattle.stream_bounds.specs.Verdicts.{ClassAnswer}
use Rattle.port_text.specs.declared.tc_reader.fault.TcFault.{TcFault}
use Rattle.traffic.specs.Table.{Table, table_by}
use Rattle.traffic.specs.declared.table.Stream.{Stream}

-- a stream that goes on for ever: it has a period. How many frames the table says is no matter.
abbrev pub periodic : Stream → Result Stream ScriptFault
periodic x = if x.period == 0 then Err BadNumber else Ok x

-- before any schedule: a table without a stream is found
abbrev pub begun_with : List Stream → Answered
begun_with [] = record { finding = Some Findings.NoStream; judged = false }
begun_with (x ∷ streams) = nothing_answered

-- what is found first, at the end of the schedules: that none was judged comes last
abbrev pub found_in_all : Answered → Option Finding
found_in_all so_far = first_of so_far.finding (if so_far.judged then None else Some Findings.NoSchedule)

-- what is told of a finding, where it is asked for
abbrev pub told_if : Bool → Option Finding → Option Finding
told_if false first = None
told_if true first = first

-- the end of the schedules: what is told is the fault
abbrev pub end_fault : Option Finding → Option BoundsInput
end_fault None = None
end_fault (Some finding) = Some (Inputs.Found finding)

-- a line before the rest, by what it is, where this was found before and is told
abbrev pub with_command : Option Finding → ℕ → Result Bool ScriptFault → Outcome BoundsInput → Outcome BoundsInput → Outcome BoundsInput
with_command found number (Err fault) skipped told = record { text = []; fault = Some (Inputs.Schedules found number fault) }
with_command found number (Ok false) skipped told = skipped
with_command found number (Ok true) skipped told = told

-- the lines of a command, and then what comes behind it
abbrev pub behind_lines : List ℕ → Outcome BoundsInput → Outcome BoundsInput
behind_lines lines rest = record { text = lines ++ rest.text; fault = rest.fault }

-- the lines of a line that begins with tc, where the answers are known that it asks for; else nothing more is said
abbrev pub with_answers : List (List ClassAnswer) → (List ClassAnswer → List (List ClassAnswer) → Outcome BoundsInput) → Outcome BoundsInput
with_answers [] told = record { text = []; fault = None }
with_answers (answers ∷ later) told = told answers later

-- The outcome of lines of schedules, behind what was answered so far. For each line that begins with tc there are the answers about all classes
-- that it asks for, in order.
abbrev pub bounds_in : (List (List ℕ) → Result Command TcFault) → BoundsSettings → List Stream → Answered → List (List ClassAnswer) → Script
    → Outcome BoundsInput
bounds_in read s streams so_far answers End = record { text = []; fault = end_fault (told_if s.strict (found_in_all so_far)) }
bounds_in read s streams so_far answers (Broken number limit) =
    record { text = []; fault = Some (limited_behind (told_if s.strict so_far.finding) number limit) }
bounds_in read s streams so_far answers (Line number octets rest) =
    with_command (told_if s.strict so_far.finding) number (is_command false (words_of octets))
    (bounds_in read s streams so_far answers rest)
    (with_answers answers (λ now later.
    behind_lines (command_lines s streams (read (words_of octets)) now)
    (bounds_in read s streams (joined so_far (command_answered number s streams (read (words_of octets)) now)) later rest)))

-- the outcome of a table and the lines of schedules: where the table has a fault nothing is written
abbrev pub outcome_unless : Option (ℕ × ScriptFault) → List Stream → (List (List ℕ) → Result Command TcFault) → BoundsSettings
    → List (List ClassAnswer) → Script → Outcome BoundsInput
outcome_unless None streams read s answers script = bounds_in read s streams (begun_with streams) answers script
outcome_unless (Some (number, fault)) streams read s answers script = record { text = []; fault = Some (Inputs.Table number fault) }

abbrev pub outcome_in : (List (List ℕ) → Result Command TcFault) → BoundsSettings → Table → List (List ClassAnswer) → Script → Outcome BoundsInput
outcome_in read s table answers script = outcome_unless table.fault table.streams read s answers script

-- by the answers that a line asks for, where they are there: they are right, and so are those behind
abbrev pub AreFirst : Bool → BoundsSettings → List Stream → Result Command TcFault → List (List ClassAnswer) → (List (List ClassAnswer) → Type 0) → Type 0
AreFirst short s streams asked [] Later = short ≡ true
AreFirst short s streams asked (answers ∷ later) Later = AreCommandAnswers s streams asked answers × Later later

-- by what a line is
abbrev pub AreLineAnswers : Result Bool ScriptFault → Bool → BoundsSettings → List Stream → Result Command TcFault → List (List ClassAnswer)
    → (List (List ClassAnswer) → Type 0) → Type 0
AreLineAnswers (Err fault) short s streams asked answers Later = answers ≡ []
AreLineAnswers (Ok false) short s streams asked answers Later = Later answers
AreLineAnswers (Ok true) short s streams asked answers Later = AreFirst short s streams asked answers Later

-- Answers are those that the lines of schedules ask for, one after another: of all lines, or of the first ones, where the rest may be missing.
abbrev pub AreAnswers : Bool → (List (List ℕ) → Result Command TcFault) → BoundsSettings → List Stream → List (List ClassAnswer) → Script → Type 0
AreAnswers short read s streams answers End = answers ≡ []
AreAnswers short read s streams answers (Broken number limit) = answers ≡ []
AreAnswers short read s streams answers (Line number octets rest) =
    AreLineAnswers (is_command false (words_of octets)) short s streams (read (words_of octets)) answers
    (λ later. AreAnswers short read s streams later rest)

-- and those behind a table: where it has a fault none are asked for
abbrev pub AreTableAnswers : Option (ℕ × ScriptFault) → Bool → (List (List ℕ) → Result Command TcFault) → BoundsSettings → List Stream
    → List (List ClassAnswer) → Script → Type 0
AreTableAnswers None short read s streams answers script = AreAnswers short read s streams answers script
AreTableAnswers (Some fault) short read s streams answers script = answers ≡ []

abbrev pub AreAllAnswers : Bool → (List (List ℕ) → Result Command TcFault) → BoundsSettings → Table → List (List ClassAnswer) → Script → Type 0
AreAllAnswers short read s table answers script = AreTableAnswers table.fault short read s table.streams answers script

-- What an outcome is, where the answers are right that its lines ask for: the octets of both inputs have one such outcome for each list of answers.
pub record IsBounded (short : Bool) (read : List (List ℕ) → Result Command TcFault) (s : BoundsSettings) (table : Table) (schedules : Script)
    (Is : Outcome BoundsInput → Type 0) : Type 0 where
  pub answers : List (List ClassAnswer)
  pub right : AreAllAnswers short read s table answers schedules
  pub is : Is (outcome_in read s table answers schedules)

-- the same by the octets of both inputs
abbrev pub IsOutcome : Bool → (List (List ℕ) → Result Command TcFault) → BoundsSettings → List ℕ → List ℕ → (Outcome BoundsInput → Type 0) → Type 0
IsOutcome short read s table schedules Is = IsBounded short read s (table_by periodic (script_of table)) (script_of schedules) Is
