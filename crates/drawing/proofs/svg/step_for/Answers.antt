use Rattle.std.proofs.Common.{◌-◌, ℕ, ap₂, ◌∙◌}
use Rattle.drawing.specs.Axis.{step_of}
use Rattle.drawing.proofs.TextLaws.{step_found, step_some}
use Rattle.drawing.proofs.svg.step_for.Goals as goal

pub returns-clause-value : goal.returns-clause-value
returns-clause-value c =
    step_found (c.to.result - c.from.result) c.args.most c.tick_step.result c.tick_step.ensures c.requires
    ∙ ap₂ (λ (a b : ℕ). step_of (a - b) c.args.most) c.to.ensures.value c.from.ensures.value

pub returns-clause-some : goal.returns-clause-some
returns-clause-some c = step_some _ _ _ c.tick_step.ensures
