use Rattle.std.proofs.Common.{subst, refl}
use Rattle.jumping.specs.CommandWords.{IsUsable, accepted_in, AcceptedCommand}
use Rattle.jumping.proofs.accepted_commands.command.AcceptedCommand.place_at.Goals as goal

pub position_at-list-requires-clause-sound : goal.position_at-list-requires-clause-sound
position_at-list-requires-clause-sound c =
    let P : AcceptedCommand → Type 0 = λ command. IsUsable (accepted_in command) in
    let usable = subst P c.in-Install.is c.requires.usable in
    usable.planned _ refl
