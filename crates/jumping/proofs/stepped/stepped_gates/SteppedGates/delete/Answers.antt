use Rattle.std.proofs.Common.{ap, sym, ◌∙◌, le_refl}
use Rattle.gates.specs.History.{gates}
use Rattle.gates.specs.Current.{Clocked}
use Rattle.jumping.proofs.CommandLaws.{announced_later, lead_none}
use Rattle.jumping.proofs.stepped.stepped_gates.SteppedGates.delete.Goals as goal

pub returns-clause-hindsight : goal.returns-clause-hindsight
returns-clause-hindsight c = λ n ahead.
    let free = sym c.announced.ensures.command ∙ lead_none _ (sym c.lead_moment.ensures ∙ c.in_default.is) in
    announced_later c.self.inside.slots.commands c.announce_deletion.new.self.commands _ c.announce_deletion.ensures.value free (le_refl c.args.lead) n ahead
    ∙ ap (λ (v : Clocked). gates v.history n) c.self.view_is
