-- What a call over memory reports of a plan.
use Rattle.std.specs.Prelude.{◌⊎◌, List, ℕ, [], Option, Some, None, Result, Ok, Err}
use Rattle.job.specs.Outcome.{Outcome}
use Rattle.job.specs.declared.fault.Fault.{Fault}
use Rattle.job.specs.declared.fault.Fault.TheVariants as Faults
use Rattle.in_memory.specs.Slices.{Answers, HasNoMemory, Slices, Told, refused, told_of}
use Rattle.in_memory.specs.declared.jobs.Ran.{Ran}
use Rattle.plan.specs.Faults.{plan_telling}
use Rattle.plan.specs.PlanEnd.{IsPlanned, plan_value_text}
use Rattle.plan.specs.declared.faults.PlanInput.{PlanInput}
use Rattle.plan.specs.declared.settings.PlanValue.{PlanValue}
use Rattle.script.specs.Setup.{Setup}
use Rattle.script.specs.declared.settings.BadValue.{BadValue}

-- a bad value, with status 2 and no output
abbrev pub refused_plan : PlanValue → Told
refused_plan value = record { status = 2; output = []; fault = plan_value_text value }

-- the result of a run with this fault, or without one
abbrev pub result_of : Option PlanInput → Result (Unit {0}) (Fault PlanInput)
result_of None = Ok tt
result_of (Some fault) = Err (Faults.Input fault)

-- an output, with the fault that ends it, that may be written for a table or a network
abbrev pub IsPlanOf : Setup → (table : List ℕ) → Outcome PlanInput → Type 0
IsPlanOf port table whole = IsPlanned port table (result_of whole.fault) (Some []) (Some whole.text)

-- What is reported by settings: such an output, where memory is not out.
abbrev pub IsPlannedInto : Setup → (table : List ℕ) → Ran → (old new : Slices) → Type 0
IsPlannedInto port table ran old new = ((whole : Outcome PlanInput) × IsPlanOf port table whole × Answers (told_of plan_telling whole) ran old new) ⊎ HasNoMemory ran old new

-- What is reported, by what the values of the port say; or the first value that is bad: of the port's, where one is.
abbrev pub AnswersPlan : Result Setup BadValue → (table : List ℕ) → Ran → (old new : Slices) → Type 0
AnswersPlan (Ok port) table ran old new = IsPlannedInto port table ran old new ⊎ ((value : PlanValue) × Answers (refused_plan value) ran old new)
AnswersPlan (Err value) table ran old new = Answers (refused value) ran old new
