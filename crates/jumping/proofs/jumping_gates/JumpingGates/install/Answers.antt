use Rattle.std.proofs.Common.{ap, sym, ◌∙◌}
use Rattle.jumping.specs.Words.{gates, Clocked, with_command}
use Rattle.gates.specs.Current.{accepted_at}
use Rattle.jumping.proofs.CommandLaws.{announced_history, announced_later, lead_none}
use Rattle.jumping.proofs.jumping_gates.JumpingGates.install.Goals as goal

pub returns-clause-hindsight : goal.returns-clause-hindsight
returns-clause-hindsight c = λ n ahead.
    let free = sym c.announced.ensures.command ∙ lead_none _ (sym c.lead_moment.ensures ∙ c.in_default.is) in
    announced_later c.self.inside.slots.commands c.announce_list-change.new.self.commands _ c.announce_list-change.ensures.value free (c.announce_list-change.ensures.usable).timely n ahead
    ∙ ap (λ (v : Clocked). gates v.history n) c.self.view_is

pub returns-clause-history : goal.returns-clause-history
returns-clause-history c =
    let slots = c.self.inside.slots.commands in
    let free = sym c.announced.ensures.command ∙ lead_none _ (sym c.lead_moment.ensures ∙ c.in_default.is) in
    announced_history slots c.announce_list-change.new.self.commands _ c.self.invariant.0 c.announce_list-change.ensures.value free
    ∙ ap (λ (v : Clocked). with_command v.history v.moment (accepted_at c.args.lead c.args.schedule.now)) c.self.view_is
