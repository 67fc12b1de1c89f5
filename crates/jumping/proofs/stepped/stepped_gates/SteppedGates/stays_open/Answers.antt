use Rattle.std.proofs.Common.{[], List, ap, refl, ◌∙◌}
use Rattle.gates.specs.Open.{open_while}
use Rattle.gates.specs.History.{open_through, cons_some}
use Rattle.gates.specs.Stretch.{Stretch, mask_in}
use Rattle.gates.specs.Current.{Clocked}
use Rattle.jumping.proofs.CommandLaws.{open_answer}
use Rattle.jumping.specs.Leg.{Following, stretches_ahead}
use Rattle.jumping.proofs.stepped.stepped_gates.SteppedGates.stays_open.Goals as goal

pub returns-clause-stays : goal.returns-clause-stays
returns-clause-stays c =
    let slots = c.self.inside.slots.commands in
    open_answer slots c.self.invariant.0 slots.in_force (cons_some slots.pending (cons_some slots.announced [])) refl refl c.args.class c.moment.result c.args.for_ps c.moment.ensures c.stays_open_ahead.result
    (c.stays_open_ahead.ensures
    ∙ (ap (λ (r : Following). open_while (mask_in (stretches_ahead c.legs_ahead-ahead.result.leg r)) c.args.class c.moment.result c.args.for_ps) c.rest.ensures
    ∙ ap (λ (s : List Stretch). open_while (mask_in s) c.args.class c.moment.result c.args.for_ps) c.legs_ahead-ahead.ensures.shows))
    ∙ ap (λ (v : Clocked). open_through v.history c.args.class v.moment c.args.for_ps) c.self.view_is
