use Rattle.std.proofs.Common.{ap}
use Rattle.jumping.specs.CommandWords.{accepted_in, command_of}
use Rattle.jumping.proofs.accepted_commands.command.AcceptedList.held_from.Goals as goal

pub hold_moment-requires-clause-usable : goal.hold_moment-requires-clause-usable
hold_moment-requires-clause-usable c = c.requires.usable (accepted_in c.in-Some.command.now) (ap command_of c.in-Some.is)
