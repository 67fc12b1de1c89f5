use Rattle.std.proofs.Common.{Option, None, sym, ap, ◌∙◌, subst}
use Rattle.std.specs.Option.{ForSome}
use Rattle.jumping.specs.CommandWords.{Accepted, IsUsable, mask_since, open_while, plan_of, start_of, command_of, IsListOf, hold_for, position_lent}
use Rattle.gates.proofs.StretchLaws.{no_plan_while}
use Rattle.jumping.proofs.UnderLaws.{list_sound}
use Rattle.jumping.proofs.accepted_commands.stay.stays_open_alone.Goals as goal

pub returns-in-None : goal.returns-in-None
returns-in-None c =
    let commands = c.args.slots.now.commands in
    let start = start_of commands.in_force in
    let need = c.args.need in
    let none = subst (IsListOf (command_of c.in_force.result) (position_lent c.in_force.result)) c.in-None.is c.list_in.ensures in
    sym (ap (λ p. open_while (mask_since p start (hold_for p start commands.pending)) need.class need.from need.length) (ap plan_of (sym c.in_force.ensures.command) ∙ none.0)
    ∙ no_plan_while start (hold_for None start commands.pending) need.class need.from need.length c.requires.class)

pub stays_open-requires-clause-sound : goal.stays_open-requires-clause-sound
stays_open-requires-clause-sound c =
    let f = command_of c.in_force.result in
    let position = position_lent c.in_force.result in
    list_sound f position c.in-Some.list.now (subst (IsListOf f position) c.in-Some.is c.list_in.ensures)
    (subst (λ (g : Option Accepted). ForSome g IsUsable) (sym c.in_force.ensures.command) c.requires.sound.in_force_usable)
