-- Faults of a run on a network and schedules, and what is reported of them.
use Rattle.std.specs.Prelude.{List, ℕ, [], ◌∷◌, ◌++◌, Option, Some, None, codes, decimal}
use Rattle.std.specs.List.{concat}
use Rattle.abstract_port.specs.declared.Refused.{Refused}
use Rattle.port_text.specs.AnswerLines.{refused_line}
use Rattle.job.specs.Report.{Telling}
use Rattle.job.specs.declared.fault.Fault.{Fault}
use Rattle.job.specs.declared.fault.Fault.TheVariants as Faults
use Rattle.job.specs.declared.kind.FaultKind.{FaultKind}
use Rattle.job.specs.declared.kind.FaultKind.TheVariants as Kinds
use Rattle.job.specs.declared.kind.ValueKind.TheVariants as Options
use Rattle.network.specs.Faults.{network_kind, network_text}
use Rattle.network.specs.declared.network_table.faults.BadNetwork.{BadNetwork}
use Rattle.network.specs.ScheduleFaults.{schedules_kind, schedules_text}
use Rattle.network.specs.declared.port_schedules.faults.BadSchedules.{BadSchedules}
use Rattle.paths.specs.declared.faults.PathsFinding.{PathsFinding}
use Rattle.paths.specs.declared.faults.PathsFinding.TheVariants as Findings
use Rattle.paths.specs.declared.faults.PathsInput.{PathsInput}
use Rattle.paths.specs.declared.faults.PathsInput.TheVariants as Inputs

-- 1. Texts

-- a finding about a stream
abbrev pub stream_found : ℕ → List ℕ → List ℕ
stream_found id found = concat (codes "taprio_port: paths: stream " ∷ decimal id ∷ found ∷ [])

-- a finding about a class of a port, which may have a name
abbrev pub port_text : Option (List ℕ) → List ℕ
port_text None = []
port_text (Some name) = concat (codes "port " ∷ name ∷ codes " " ∷ [])

abbrev pub class_end : ℕ → List ℕ → List ℕ
class_end class found = concat (codes "class " ∷ decimal class ∷ found ∷ [])

abbrev pub class_found : Option (List ℕ) → ℕ → List ℕ → List ℕ
class_found name class found = codes "taprio_port: paths: " ++ (port_text name ++ class_end class found)

abbrev pub found_text : PathsFinding → List ℕ
found_text (Findings.Missed id) = stream_found id (codes ": deadline missed\n")
found_text (Findings.Unknown id) = stream_found id (codes ": deadline unknown\n")
found_text (Findings.Dropped id) = stream_found id (codes ": dropped\n")
found_text (Findings.Full name class) = class_found name class (codes ": full\n")
found_text (Findings.Stuck name class) = class_found name class (codes ": stuck\n")
found_text (Findings.Overloaded name class) = class_found name class (codes ": overloaded\n")
found_text Findings.NoSchedule = codes "taprio_port: paths: no schedule was judged\n"
found_text Findings.NoStream = codes "taprio_port: paths: no stream is in the network\n"

-- the command of a line is refused
abbrev pub refusal_head : ℕ → List ℕ
refusal_head line = concat (codes "taprio_port: schedules line " ∷ decimal line ∷ codes ": " ∷ [])

abbrev pub refusal_text : ℕ → Refused → List ℕ
refusal_text line why = refusal_head line ++ refused_line why

-- the text of a fault
abbrev pub paths_text : PathsInput → List ℕ
paths_text (Inputs.Network bad) = network_text bad.line bad.fault
paths_text (Inputs.Schedules bad) = schedules_text bad.line bad.fault
paths_text (Inputs.Refused line why) = refusal_text line why
paths_text Inputs.Ports = codes "taprio_port: paths: there are more than 65536 ports\n"
paths_text Inputs.Next = codes "taprio_port: bad value of --next\n"
paths_text (Inputs.Found finding) = found_text finding

-- 2. What they are

abbrev pub finding_kind : PathsFinding → FaultKind
finding_kind (Findings.Missed id) = Kinds.Found
finding_kind (Findings.Unknown id) = Kinds.Found
finding_kind (Findings.Dropped id) = Kinds.Found
finding_kind (Findings.Full name class) = Kinds.Found
finding_kind (Findings.Stuck name class) = Kinds.Found
finding_kind (Findings.Overloaded name class) = Kinds.Found
finding_kind Findings.NoSchedule = Kinds.NoSchedule
finding_kind Findings.NoStream = Kinds.NoStream

abbrev pub paths_kind : PathsInput → FaultKind
paths_kind (Inputs.Network bad) = network_kind bad
paths_kind (Inputs.Schedules bad) = schedules_kind bad
paths_kind (Inputs.Refused line why) = Kinds.Found
paths_kind Inputs.Ports = Kinds.Found
paths_kind Inputs.Next = Kinds.Value Options.Next
paths_kind (Inputs.Found finding) = finding_kind finding

-- the exit status of a fault: 3 where an input is refused, 2 where a value is, 1 where a strict run has found something
abbrev pub paths_status : PathsInput → ℕ
paths_status (Inputs.Network bad) = 3
paths_status (Inputs.Schedules bad) = 3
paths_status (Inputs.Refused line why) = 3
paths_status Inputs.Ports = 3
paths_status Inputs.Next = 2
paths_status (Inputs.Found finding) = 1

-- what is reported of a fault
abbrev pub paths_telling : Telling PathsInput
paths_telling = record { text = paths_text; status = paths_status }

-- 3. Faults of readers, as those of the job

abbrev pub network_fault : Fault BadNetwork → Fault PathsInput
network_fault (Faults.Input bad) = Faults.Input (Inputs.Network bad)
network_fault Faults.Read = Faults.Read
network_fault Faults.Write = Faults.Write
network_fault Faults.Memory = Faults.Memory

abbrev pub schedules_fault : Fault BadSchedules → Fault PathsInput
schedules_fault (Faults.Input bad) = Faults.Input (Inputs.Schedules bad)
schedules_fault Faults.Read = Faults.Read
schedules_fault Faults.Write = Faults.Write
schedules_fault Faults.Memory = Faults.Memory
