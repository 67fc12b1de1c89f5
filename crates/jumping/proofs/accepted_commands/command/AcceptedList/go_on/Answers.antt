use Rattle.std.proofs.Common.{refl}
use Rattle.jumping.proofs.accepted_commands.command.AcceptedList.go_on.Goals as goal

pub go_on-requires-clause-sound : goal.go_on-requires-clause-sound
go_on-requires-clause-sound c = c.requires.usable.planned c.args.self.now.schedule refl
