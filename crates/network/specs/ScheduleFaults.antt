-- What is reported of the faults of schedules.
use Rattle.std.specs.Prelude.{List, ℕ, [], ◌∷◌, ◌++◌, codes, decimal}
use Rattle.std.specs.List.{concat}
use Rattle.port_text.specs.AnswerLines.{tc_fault_line}
use Rattle.job.specs.Report.{Telling}
use Rattle.job.specs.declared.kind.FaultKind.{FaultKind}
use Rattle.job.specs.declared.kind.FaultKind.TheVariants as Kinds
use Rattle.job.specs.declared.kind.LineKind.{LineKind}
use Rattle.job.specs.declared.kind.LineKind.TheVariants as Lines
use Rattle.network.specs.Faults.{named_text, second_text}
use Rattle.network.specs.declared.port_schedules.faults.BadSchedules.{BadSchedules}
use Rattle.network.specs.declared.port_schedules.faults.SchedulesFault.{SchedulesFault}
use Rattle.network.specs.declared.port_schedules.faults.SchedulesFault.TheVariants as Faults
use Rattle.script.specs.Kinds.{line_kind}
use Rattle.script.specs.Texts.{line_text}
use Rattle.port_text.specs.declared.tc_reader.fault.TcFault.{TcFault}

-- the number of the line before what is wrong with it
abbrev pub numbered_line : ℕ → List ℕ
numbered_line line = concat (codes "taprio_port: schedules line " ∷ decimal line ∷ codes ": " ∷ [])

-- a line that is no command: the answer to such a line, behind the number of this one
abbrev pub malformed_text : ℕ → TcFault → List ℕ
malformed_text line fault = numbered_line line ++ tc_fault_line fault

-- the text of the fault of the line of a number
abbrev pub schedules_text : ℕ → SchedulesFault → List ℕ
schedules_text line (Faults.Line fault) = line_text (codes "taprio_port: schedules line ") line fault
schedules_text line (Faults.Malformed fault) = malformed_text line fault
schedules_text line Faults.Deletion = named_text (codes "taprio_port: schedules line ") line (codes "Deletion")
schedules_text line Faults.UnknownPort = named_text (codes "taprio_port: schedules line ") line (codes "UnknownPort")
schedules_text line Faults.Uncrossed = named_text (codes "taprio_port: schedules line ") line (codes "Uncrossed")
schedules_text line (Faults.SecondSchedule other) = second_text (codes "taprio_port: schedules line ") line (codes "SecondSchedule") other

-- what is reported of a fault; 3: the input is refused
abbrev pub schedules_telling : Telling BadSchedules
schedules_telling = record { text = λ bad. schedules_text bad.line bad.fault; status = λ bad. 3 }

-- what a fault is
abbrev pub line_kind_of : SchedulesFault → LineKind
line_kind_of (Faults.Line fault) = line_kind fault
line_kind_of (Faults.Malformed fault) = Lines.NoCommand
line_kind_of Faults.Deletion = Lines.Deletion
line_kind_of Faults.UnknownPort = Lines.UnknownPort
line_kind_of Faults.Uncrossed = Lines.Uncrossed
line_kind_of (Faults.SecondSchedule other) = Lines.SecondSchedule

abbrev pub schedules_kind : BadSchedules → FaultKind
schedules_kind bad = Kinds.Line (line_kind_of bad.fault)
