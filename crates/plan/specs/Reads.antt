-- How the octets of a table are read.
use Rattle.std.specs.Prelude.{◌≡◌, ◌<◌, ⊤, ℕ, List, ◌++◌, length, Bool, true, false, Option, Result}
use Rattle.std.specs.Io.KnownBytes.{Consumes, IsAtEnd}
use Rattle.job.specs.declared.fault.Fault.{Fault}
use Rattle.job.specs.declared.fault.Fault.TheVariants as Faults
use Rattle.plan.specs.declared.faults.PlanInput.{PlanInput}
use Rattle.plan.specs.declared.faults.PlanInput.TheVariants as Inputs
use Rattle.plan.specs.declared.octets.TheConstants.{MAX_OCTETS}

-- why an input of these octets is not read: a call failed, or there are too many
abbrev pub IsUnread : (table : List ℕ) → Fault PlanInput → Type 0
IsUnread table (Faults.Input (Inputs.Table number fault)) = ⊥
IsUnread table (Faults.Input (Inputs.Network bad)) = ⊥
IsUnread table (Faults.Input Inputs.Large) = MAX_OCTETS < length table
IsUnread table (Faults.Input (Inputs.Without reason)) = ⊥
IsUnread table Faults.Write = ⊥
IsUnread table Faults.Read = ⊤
IsUnread table Faults.Memory = ⊤

-- where nothing more comes the input has ended
abbrev pub IsEndAt : (more : Bool) → (left : Option (List ℕ)) → Type 0
IsEndAt true left = ⊤
IsEndAt false left = IsAtEnd left

-- some octets of the input are added behind others
pub record AddsSome (more : Bool) (before left : Option (List ℕ)) (old new : List ℕ) : Type 0 where
  pub some : List ℕ
  pub added : new ≡ old ++ some
  pub read : Consumes before left some
  pub end : IsEndAt more left
