-- Why there is no plan, and what is reported of that.
use Rattle.std.specs.Prelude.{List, ℕ, [], ◌∷◌, codes, decimal}
use Rattle.std.specs.List.{concat}
use Rattle.job.specs.Report.{Telling}
use Rattle.job.specs.declared.fault.Fault.{Fault}
use Rattle.job.specs.declared.fault.Fault.TheVariants as Faults
use Rattle.job.specs.declared.kind.FaultKind.{FaultKind}
use Rattle.job.specs.declared.kind.FaultKind.TheVariants as Kinds
use Rattle.network.specs.Faults.{network_kind, network_text}
use Rattle.network.specs.declared.network_table.faults.BadNetwork.{BadNetwork}
use Rattle.plan.specs.declared.faults.PlanInput.{PlanInput}
use Rattle.plan.specs.declared.faults.PlanInput.TheVariants as Inputs
use Rattle.plan.specs.declared.reasons.Reason.{Reason}
use Rattle.plan.specs.declared.reasons.Reason.TheVariants as Reasons
use Rattle.script.specs.Kinds.{table_kind}
use Rattle.script.specs.Texts.{line_text}
use Rattle.script.specs.declared.faults.BadLine.{BadLine}

-- the line of a reason with a number
abbrev pub numbered : List ℕ → ℕ → List ℕ
numbered text number = concat (text ∷ decimal number ∷ codes "\n" ∷ [])

-- the line of a reason
abbrev pub reason_text : Reason → List ℕ
reason_text Reasons.Streams = codes "none streams\n"
reason_text Reasons.Classes = codes "none classes\n"
reason_text (Reasons.Dropped id) = numbered (codes "none dropped ") id
reason_text (Reasons.Overloaded class) = numbered (codes "none overloaded class ") class
reason_text (Reasons.Deadline id) = numbered (codes "none deadline ") id
reason_text (Reasons.Lost class) = numbered (codes "none lost class ") class
reason_text Reasons.Entries = codes "none entries\n"
reason_text Reasons.Cycle = codes "none cycle\n"

-- a fault that reading a table has, as one of the job
abbrev pub table_fault : Fault BadLine → Fault PlanInput
table_fault (Faults.Input bad) = Faults.Input (Inputs.Table bad.line bad.fault)
table_fault Faults.Read = Faults.Read
table_fault Faults.Write = Faults.Write
table_fault Faults.Memory = Faults.Memory

-- and one that reading a network has
abbrev pub network_fault : Fault BadNetwork → Fault PlanInput
network_fault (Faults.Input bad) = Faults.Input (Inputs.Network bad)
network_fault Faults.Read = Faults.Read
network_fault Faults.Write = Faults.Write
network_fault Faults.Memory = Faults.Memory

-- the text of a fault
abbrev pub plan_text : PlanInput → List ℕ
plan_text (Inputs.Table line fault) = line_text (codes "taprio_port: table line ") line fault
plan_text (Inputs.Network bad) = network_text bad.line bad.fault
plan_text Inputs.Large = codes "taprio_port: plan: the table has more than 16777216 octets\n"
plan_text (Inputs.Without reason) = codes "taprio_port: plan: no schedule is found\n"

-- what a fault is
abbrev pub plan_kind : PlanInput → FaultKind
plan_kind (Inputs.Table line fault) = Kinds.Line (table_kind fault)
plan_kind (Inputs.Network bad) = network_kind bad
plan_kind Inputs.Large = Kinds.Found
plan_kind (Inputs.Without reason) = Kinds.Found

-- the exit status of a fault: 3 where the table or the network is refused, 1 where no schedule is found
abbrev pub plan_status : PlanInput → ℕ
plan_status (Inputs.Table line fault) = 3
plan_status (Inputs.Network bad) = 3
plan_status Inputs.Large = 3
plan_status (Inputs.Without reason) = 1

-- what is reported of a fault
abbrev pub plan_telling : Telling PlanInput
plan_telling = record { text = plan_text; status = plan_status }
