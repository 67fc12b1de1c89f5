use Rattle.std.proofs.Common.{subst}
use Rattle.jumping.specs.CommandWords.{command_of, IsListOf, position_lent}
use Rattle.jumping.proofs.UnderLaws.{list_sound}
use Rattle.jumping.proofs.accepted_commands.under.held_under.Goals as goal

pub held_from-requires-clause-sound : goal.held_from-requires-clause-sound
held_from-requires-clause-sound c = list_sound (command_of c.args.in_force) (position_lent c.args.in_force) c.in-Some.list.now (subst (IsListOf (command_of c.args.in_force) (position_lent c.args.in_force)) c.in-Some.is c.list_in.ensures) c.requires.usable
