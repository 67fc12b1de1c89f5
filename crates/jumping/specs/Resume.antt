-- Where the list in force goes on once a pending command is replaced (IEEE Std 802.1Q-2018, 8.6.9.3 List Config).
use Rattle.std.specs.Prelude.{◌≡◌, false, Option, Some, None, [], ◌∷◌}
use Rattle.gates.specs.History.{Accepted, is_in_time}
use Rattle.jumping.specs.declared.list_position.Position.{Position}
use Rattle.jumping.specs.Commands.{Commands}
use Rattle.jumping.specs.InForce.{Stands}

-- where the command that is pending will be replaced at the lead moment of another, the list in force stands so then
abbrev pub ResumesBy : Option Accepted → Option Accepted → Option Accepted → Option Position → Type 0
ResumesBy in_force None announced position = Unit {0}
ResumesBy in_force (Some pending) None position = Unit {0}
ResumesBy in_force (Some pending) (Some announced) position =
    is_in_time pending (announced ∷ []) ≡ false → Stands in_force (Some announced) announced.lead position

-- the list in force stands as it has to for a replacement of the pending command, by the commands that count
abbrev pub Resumes : Commands → Option Position → Type 0
Resumes c position = ResumesBy c.in_force c.pending c.announced position
