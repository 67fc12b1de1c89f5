use Rattle.std.proofs.Common.{◌+◌, ◌-◌, ◌||◌, sym, ap, ◌∙◌, arith}
use Rattle.drawing.specs.Picture.{some_mixed}
use Rattle.drawing.proofs.TextLaws.{mixed_more, mixed_none}
use Rattle.drawing.proofs.svg.has_mixed.Goals as goal

pub returns-then-is_mixed : goal.returns-then-is_mixed
returns-then-is_mixed g c =
    let at = c.loop-class.class in
    sym (
    c.loop-class.invariant ∙ mixed_more c.args.page.now c.args.bands.now at 8 c.loop-class-test.true
    ∙ ap (λ b. b || some_mixed c.args.page.now c.args.bands.now (at + 1) (8 - (at + 1))) (sym c.is_mixed.ensures ∙ c.if-is_mixed.true)
    )

pub loop-class-preserved : goal.loop-class-preserved
loop-class-preserved g c =
    let at = c.loop-class.class in
    c.loop-class.invariant ∙ mixed_more c.args.page.now c.args.bands.now at 8 c.loop-class-test.true
    ∙ ap (λ b. b || some_mixed c.args.page.now c.args.bands.now (at + 1) (8 - (at + 1))) (sym c.is_mixed.ensures ∙ c.if-is_mixed.false)

pub returns : goal.returns
returns g c = sym (c.loop-class.invariant ∙ mixed_none c.args.page.now c.args.bands.now c.loop-class.class 8 (omega (arith, c.loop-class-test.false)))
