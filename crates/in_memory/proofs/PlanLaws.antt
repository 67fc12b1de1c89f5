-- What a call over memory reports of a plan, by how its run ends.
use Rattle.std.proofs.Common.{List, ℕ, [], Some, None, Result, Ok, Err, inl, inr, refl}
use Rattle.job.specs.Outcome.{Outcome, RunsOut}
use Rattle.job.specs.declared.fault.Fault.{Fault}
use Rattle.job.specs.declared.fault.Fault.TheVariants as Faults
use Rattle.plan.specs.Faults.{plan_telling}
use Rattle.plan.specs.PlanEnd.{IsPlanned}
use Rattle.plan.specs.declared.faults.PlanInput.{PlanInput}
use Rattle.script.specs.Setup.{Setup}
use Rattle.in_memory.specs.Plans.{IsPlannedInto}
use Rattle.in_memory.specs.Slices.{Answers, HasNoMemory, IsFailed, Slices, told_of}
use Rattle.in_memory.specs.declared.jobs.Ran.{Ran}

module _ (port : Setup) (table written : List ℕ) (ran : Ran) (old new : Slices) where
  pub answers_by : (run : Result (Unit {0}) (Fault PlanInput)) → IsPlanned port table run (Some []) (Some written)
      → ((whole : Outcome PlanInput) → RunsOut run (Some []) (Some written) whole → Answers (told_of plan_telling whole) ran old new)
      → (IsFailed run → HasNoMemory ran old new) → IsPlannedInto port table ran old new
  answers_by (Ok x) w told failed = inl (record { text = written; fault = None }, w, told (record { text = written; fault = None }) (refl, refl))
  answers_by (Err (Faults.Input fault)) w told failed =
      inl (record { text = written; fault = Some fault }, w, told (record { text = written; fault = Some fault }) (refl, refl))
  answers_by (Err Faults.Read) w told failed = inr (failed tt)
  answers_by (Err Faults.Write) w told failed = inr (failed tt)
  answers_by (Err Faults.Memory) w told failed = inr (failed tt)
