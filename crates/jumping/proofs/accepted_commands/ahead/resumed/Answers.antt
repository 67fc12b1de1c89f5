use Rattle.std.proofs.Common.{Option, sym, subst}
use Rattle.std.specs.Option.{ForSome}
use Rattle.jumping.specs.CommandWords.{Accepted, IsUsable, command_of, IsListOf, position_lent}
use Rattle.jumping.proofs.UnderLaws.{list_sound}
use Rattle.jumping.proofs.accepted_commands.ahead.resumed.Goals as goal

pub position_at-requires-clause-sound : goal.position_at-requires-clause-sound
position_at-requires-clause-sound c =
    let f = command_of c.in_force.result in
    let position = position_lent c.in_force.result in
    list_sound f position c.in_ok-list.list.now (subst (IsListOf f position) c.in_ok-list.was c.list_in.ensures)
    (subst (λ (g : Option Accepted). ForSome g IsUsable) (sym c.in_force.ensures.command) c.requires.in_force_usable)
