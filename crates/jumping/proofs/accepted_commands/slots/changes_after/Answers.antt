use Rattle.std.proofs.Common.{ap}
use Rattle.jumping.specs.CommandWords.{Accepted, accepted_in, command_of}
use Rattle.jumping.proofs.UnderLaws.{is_after}
use Rattle.jumping.proofs.accepted_commands.slots.changes_after.Goals as goal

pub returns-in-Some : goal.returns-in-Some
returns-in-Some c = is_after (λ (a : Accepted). a.change) (command_of c.args.command) (accepted_in c.in-Some.command.now) c.args.moment c.change.result (ap command_of c.in-Some.is) c.change.ensures
