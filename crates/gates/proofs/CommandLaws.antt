-- Laws of a new command.
use Rattle.std.proofs.Common.{◌≡◌, ◌<◌, ◌≤◌, ℕ, List, Option, Some, None, refl}
use Rattle.gates.specs.Gate.{Plan, in_ps, change_of}
use Rattle.gates.specs.History.{Accepted, announced, gates}
use Rattle.gates.specs.Current.{with_command, with_command_by}
use Rattle.gates.proofs.HistoryLaws.{push_gates}
use Rattle.gates.proofs.StretchLaws.{cycle_above}
use Rattle.gates.proofs.PhaseLaws.{boundary_above}

-- the change moment is at or after the lead moment
pub change-of_timely : (plan : Plan) (e : ℕ) → 0 < plan.cycle → e ≤ change_of plan e
change-of_timely plan e above = boundary_above (in_ps plan.base) (in_ps plan.cycle) e (cycle_above plan above)

-- a command, accepted or not, changes no gate before its lead moment
pub with_command_gates : (h : List Accepted) (m : ℕ) (x : Accepted) (n : ℕ) → n < x.lead → x.lead ≤ x.change → gates (with_command h m x) n ≡ gates h n
with_command_gates h m x n ahead timely = go (announced h m)
  where
    go : (o : Option Accepted) → gates (with_command_by o h x) n ≡ gates h n
    go None = push_gates x n ahead timely h
    go (Some a) = refl
