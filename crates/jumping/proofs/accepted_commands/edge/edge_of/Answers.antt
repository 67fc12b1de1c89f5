use Rattle.std.proofs.Common.{ap, sym, ◌∙◌, subst, option_map}
use Rattle.jumping.specs.CommandWords.{Accepted, gates, history_of, IsFlat, boundary_in_force, earlier}
use Rattle.jumping.proofs.CommandLaws.{edge_events, flat_now}
use Rattle.jumping.proofs.accepted_commands.edge.edge_of.Goals as goal

pub returns-clause-flat : goal.returns-clause-flat
returns-clause-flat c =
    let slots = c.args.slots.now.commands in
    let listed = c.until_boundary-listed.result in
    let all = flat_now slots c.requires.sound listed (c.until_boundary-listed.ensures.flat slots.moment c.requires.stands) in
    let changes = c.change_moment.ensures ∙ ap (option_map (λ (a : Accepted). a.change)) c.pending.ensures.command in
    let leads = c.lead_moment.ensures ∙ ap (option_map (λ (a : Accepted). a.lead)) c.announced.ensures.command in
    let same = c.earlier-2.ensures ∙ ap (earlier listed) (c.earlier.ensures ∙ (ap (λ t. earlier t c.lead_moment.result) changes ∙ ap (earlier (option_map (λ (a : Accepted). a.change) slots.pending)) leads)) in
    subst (λ u. IsFlat (gates (history_of slots)) slots.moment u) (sym same) all

pub returns-clause-event : goal.returns-clause-event
returns-clause-event c =
    let slots = c.args.slots.now.commands in
    let position = c.args.slots.now.position in
    let changes = c.change_moment.ensures ∙ ap (option_map (λ (a : Accepted). a.change)) c.pending.ensures.command in
    let leads = c.lead_moment.ensures ∙ ap (option_map (λ (a : Accepted). a.lead)) c.announced.ensures.command in
    let commands = c.earlier.ensures ∙ (ap (λ t. earlier t c.lead_moment.result) changes ∙ ap (earlier (option_map (λ (a : Accepted). a.change) slots.pending)) leads) in
    let edge = c.earlier-2.ensures ∙ (ap (λ t. earlier t c.earlier.result) c.until_boundary-listed.ensures.boundary ∙ ap (earlier (boundary_in_force slots.in_force slots.pending position)) commands) in
    edge_events slots c.requires.sound position c.requires.stands c.earlier-2.result edge (returns-clause-flat c).later
