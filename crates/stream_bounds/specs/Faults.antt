-- Faults of a run on a table of streams and schedules, and what is reported of them.
use Rattle.std.specs.Prelude.{List, ℕ, [], ◌∷◌, ◌++◌, Option, Some, None, codes, decimal}
use Rattle.std.specs.List.{concat}
use Rattle.text.specs.declared.line_reader.lines.Limit.{Limit}
use Rattle.text.specs.declared.line_reader.lines.LineFault.{LineFault}
use Rattle.job.specs.Lines.{fault_of_line}
use Rattle.job.specs.Report.{Telling}
use Rattle.job.specs.declared.fault.Fault.{Fault}
use Rattle.job.specs.declared.fault.Fault.TheVariants as Faults
use Rattle.job.specs.declared.kind.FaultKind.{FaultKind}
use Rattle.job.specs.declared.kind.FaultKind.TheVariants as Kinds
use Rattle.script.specs.Kinds.{line_kind, table_kind}
use Rattle.script.specs.Outcome.{limit_fault}
use Rattle.script.specs.Texts.{line_text}
use Rattle.script.specs.declared.faults.BadLine.{BadLine}
use Rattle.script.specs.declared.faults.ScriptFault.{ScriptFault}
use Rattle.stream_bounds.specs.declared.faults.BoundsInput.{BoundsInput}
use Rattle.stream_bounds.specs.declared.faults.BoundsInput.TheVariants as Inputs
use Rattle.stream_bounds.specs.declared.faults.Finding.{Finding}
use Rattle.stream_bounds.specs.declared.faults.Finding.TheVariants as Findings

-- the line of the schedules of this number passes a limit, where a strict run has found something before
abbrev pub limited_behind : Option Finding → ℕ → Limit → BoundsInput
limited_behind found line limit = Inputs.Schedules found line (limit_fault limit)

-- the same where nothing was found
abbrev pub schedules_limited : ℕ → Limit → BoundsInput
schedules_limited line limit = limited_behind None line limit

-- the fault of schedules whose line can not be read
abbrev pub schedules_fault : Option Finding → LineFault → Fault BoundsInput
schedules_fault found fault = fault_of_line (limited_behind found) fault

-- a fault that reading a table has, as one of the job
abbrev pub table_fault : Fault BadLine → Fault BoundsInput
table_fault (Faults.Input bad) = Faults.Input (Inputs.Table bad.line bad.fault)
table_fault Faults.Read = Faults.Read
table_fault Faults.Write = Faults.Write
table_fault Faults.Memory = Faults.Memory

-- a finding about a line or a stream
abbrev pub finding_text : List ℕ → ℕ → List ℕ → List ℕ
finding_text what number found = concat (codes "taprio_port: bounds: " ∷ what ∷ decimal number ∷ found ∷ [])

-- the text of a finding
abbrev pub found_text : Finding → List ℕ
found_text (Findings.TcFault line) = finding_text (codes "line ") line (codes ": tc-fault\n")
found_text (Findings.Refused line) = finding_text (codes "line ") line (codes ": refused\n")
found_text (Findings.Missed id) = finding_text (codes "stream ") id (codes ": deadline missed\n")
found_text (Findings.Unknown id) = finding_text (codes "stream ") id (codes ": deadline unknown\n")
found_text (Findings.Dropped id) = finding_text (codes "stream ") id (codes ": dropped\n")
found_text (Findings.Full class) = finding_text (codes "class ") class (codes ": full\n")
found_text (Findings.Stuck class) = finding_text (codes "class ") class (codes ": stuck\n")
found_text (Findings.Overloaded class) = finding_text (codes "class ") class (codes ": overloaded\n")
found_text Findings.NoSchedule = codes "taprio_port: bounds: no schedule was judged\n"
found_text Findings.NoStream = codes "taprio_port: bounds: no stream is in the table\n"

-- the text of what was found before, if anything was
abbrev pub first_text : Option Finding → List ℕ
first_text None = []
first_text (Some finding) = found_text finding

-- the text of the fault of a line of the schedules, behind that of what was found before
abbrev pub schedules_text : Option Finding → ℕ → ScriptFault → List ℕ
schedules_text found line fault = first_text found ++ line_text (codes "taprio_port: script line ") line fault

-- the text of a fault
abbrev pub bounds_text : BoundsInput → List ℕ
bounds_text (Inputs.Table line fault) = line_text (codes "taprio_port: table line ") line fault
bounds_text (Inputs.Schedules found line fault) = schedules_text found line fault
bounds_text (Inputs.Found finding) = found_text finding

-- what a finding is, where the faults of all jobs are told apart
abbrev pub finding_kind : Finding → FaultKind
finding_kind (Findings.TcFault line) = Kinds.Found
finding_kind (Findings.Refused line) = Kinds.Found
finding_kind (Findings.Missed id) = Kinds.Found
finding_kind (Findings.Unknown id) = Kinds.Found
finding_kind (Findings.Dropped id) = Kinds.Found
finding_kind (Findings.Full class) = Kinds.Found
finding_kind (Findings.Stuck class) = Kinds.Found
finding_kind (Findings.Overloaded class) = Kinds.Found
finding_kind Findings.NoSchedule = Kinds.NoSchedule
finding_kind Findings.NoStream = Kinds.NoStream

-- what a fault is
abbrev pub bounds_kind : BoundsInput → FaultKind
bounds_kind (Inputs.Table line fault) = Kinds.Line (table_kind fault)
bounds_kind (Inputs.Schedules found line fault) = Kinds.Line (line_kind fault)
bounds_kind (Inputs.Found finding) = finding_kind finding

-- the exit status of a fault: 3 where an input is refused, 1 where a strict run has found something
abbrev pub bounds_status : BoundsInput → ℕ
bounds_status (Inputs.Table line fault) = 3
bounds_status (Inputs.Schedules found line fault) = 3
bounds_status (Inputs.Found finding) = 1

-- what is reported of a fault
abbrev pub bounds_telling : Telling BoundsInput
bounds_telling = record { text = bounds_text; status = bounds_status }
