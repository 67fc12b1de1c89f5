use Rattle.std.proofs.Common.{◌+◌, ap, ap₂, sym, ◌∙◌, rules, arith}
use Rattle.drawing.specs.Followed.{given_by, given_to}
use Rattle.drawing.proofs.draw_run.take_command.Goals as goal

pub overflow_add-lead : goal.overflow_add-lead
overflow_add-lead g c =
    let now = c.now-now.ensures.sound.current.within in
    omega (arith, now, c.lead_of.ensures)

pub give-requires : goal.give-requires
give-requires g c =
    let now = c.now-now.ensures.sound.current.within in
    (search rules, omega (arith, now, c.lead_of.ensures))

pub returns-in-Ok-clause-bands : goal.returns-in-Ok-clause-bands
returns-in-Ok-clause-bands g c =
    let d = c.args.bands.now in
    let s = c.args.settings in
    let command = c.args.command.now in
    c.give.ensures
    ∙ ap (λ ps. given_to ps (c.now-now.result + c.lead_of.result) command d) c.rate.ensures
    ∙ ap (λ lead. given_to s.rate lead command d) (ap₂ (λ a b. a + b) c.now-now.ensures.now c.lead_of.ensures.value)
    ∙ ap (λ r. given_by r s command c.args.port.now.port.now d) (sym c.in-Ok.is ∙ c.install.ensures.answer)
