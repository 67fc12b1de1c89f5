-- What a search for a plan comes to.
use Rattle.std.specs.Prelude.{◌≡◌, ◌<◌, ⊤, ℕ, List, length, Some, Result, Ok, Err}
use Rattle.text.specs.Script.{script_of}
use Rattle.job.specs.declared.fault.Fault.{Fault}
use Rattle.job.specs.declared.fault.Fault.TheVariants as Faults
use Rattle.network.specs.Network.{network_of}
use Rattle.plan.specs.Met.{IsMetBy}
use Rattle.plan.specs.declared.faults.PlanInput.{PlanInput}
use Rattle.plan.specs.declared.faults.PlanInput.TheVariants as Inputs
use Rattle.plan.specs.declared.octets.TheConstants.{MAX_OCTETS}
use Rattle.plan.specs.declared.plans.Planned.{Planned}
use Rattle.plan.specs.declared.plans.Planned.TheVariants as Plans
use Rattle.script.specs.Setup.{Setup}
use Rattle.stream_bounds.specs.Outcome.{periodic}
use Rattle.traffic.specs.Table.{table_by}

-- the lines that are found, where some are, are met by a table or a network of these octets
abbrev pub IsGood : Setup → (table : List ℕ) → Planned → Type 0
IsGood port table (Plans.Plan found) = IsMetBy port table found.line.items
IsGood port table (Plans.Without reason) = ⊤

-- so at Ok; else the table or the network has this fault, or it is too long, or a call failed
abbrev pub IsGoodOr : Setup → (table : List ℕ) → Result Planned (Fault PlanInput) → Type 0
IsGoodOr port table (Ok planned) = IsGood port table planned
IsGoodOr port table (Err (Faults.Input (Inputs.Table number fault))) = (table_by periodic (script_of table)).fault ≡ Some (number, fault)
IsGoodOr port table (Err (Faults.Input (Inputs.Network bad))) = network_of (script_of table) ≡ Err bad
IsGoodOr port table (Err (Faults.Input Inputs.Large)) = MAX_OCTETS < length table
IsGoodOr port table (Err (Faults.Input (Inputs.Without reason))) = ⊥
IsGoodOr port table (Err Faults.Write) = ⊥
IsGoodOr port table (Err Faults.Read) = ⊤
IsGoodOr port table (Err Faults.Memory) = ⊤

-- the same of a table that was read before
abbrev pub IsGoodOrMemory : Setup → (table : List ℕ) → Result Planned (Fault PlanInput) → Type 0
IsGoodOrMemory port table (Ok planned) = IsGood port table planned
IsGoodOrMemory port table (Err fault) = fault ≡ Faults.Memory
