use Rattle.std.proofs.Common.{None, sym, ap, ◌∙◌, subst}
use Rattle.jumping.specs.CommandWords.{open_while, mask_of, IsPlaced, IsStanding, from_of, stretch_of}
use Rattle.gates.proofs.StretchLaws.{no_plan_while}
use Rattle.jumping.proofs.accepted_commands.leg.Leg.stays_open.Goals as goal

pub returns-in-Listed : goal.returns-in-Listed
returns-in-Listed c =
    let leg = c.in-Listed.leg in
    let is = c.in-Listed.is in
    let need = c.args.need in
    let stands = subst IsStanding is c.requires.ready.stands in
    let at = c.requires.at ∙ ap from_of is in
    c.stays_open.ensures leg.start (subst (λ m. IsPlaced leg.schedule.now leg.start leg.held_from m leg.position.now) (sym at) stands.1)
    ∙ ap (λ g. open_while (mask_of (stretch_of g)) need.class need.from need.length) (sym is)

pub returns-in-Open : goal.returns-in-Open
returns-in-Open c =
    let need = c.args.need in
    sym (ap (λ g. open_while (mask_of (stretch_of g)) need.class need.from need.length) c.in-Open.is
    ∙ no_plan_while c.in-Open.field-0.start None need.class need.from need.length c.requires.class)
