use Rattle.std.proofs.Common.{◌+◌, ◌-◌, ◌*◌, ◌++◌, sym, ap, ◌∙◌, arith}
use Rattle.std.proofs.lemmas.Result.{err_from_is_err_and}
use Rattle.text.proofs.Fronts.{sent_all, sent_exit, sent_more}
use Rattle.picture.specs.Ticks.{unit_of}
use Rattle.picture.specs.declared.ticks.Unit.{Unit}
use Rattle.drawing.specs.Axis.{each, tick_at}
use Rattle.drawing.proofs.TextLaws.{each_more, each_none}
use Rattle.drawing.proofs.svg.put_ticks.Goals as goal

pub returns-in_err-put_tick_at : goal.returns-in_err-put_tick_at
returns-in_err-put_tick_at g c =
    let p = err_from_is_err_and c.from_residual.result c.from_residual.ensures.1 in
    let at = c.loop-tick.tick in
    let rest = each (λ tick. tick_at c.args.page.now (unit_of c.args.step) (tick * c.args.step)) (at + 1) (c.args.last + 1 - (at + 1)) in
    let more = each_more (λ tick. tick_at c.args.page.now (unit_of c.args.step) (tick * c.args.step)) at (c.args.last + 1) c.loop-tick-test.true in
    sent_exit _ _ rest p.1 c.loop-tick.invariant (more ∙ ap (λ (u : Unit). tick_at c.args.page.now u (at * c.args.step) ++ rest) (sym c.unit_of-unit.ensures)) c.in_err-put_tick_at.ensures

pub loop-tick-preserved : goal.loop-tick-preserved
loop-tick-preserved g c =
    let at = c.loop-tick.tick in
    let rest = each (λ tick. tick_at c.args.page.now (unit_of c.args.step) (tick * c.args.step)) (at + 1) (c.args.last + 1 - (at + 1)) in
    let more = each_more (λ tick. tick_at c.args.page.now (unit_of c.args.step) (tick * c.args.step)) at (c.args.last + 1) c.loop-tick-test.true in
    sent_more _ _ rest c.loop-tick.invariant (more ∙ ap (λ (u : Unit). tick_at c.args.page.now u (at * c.args.step) ++ rest) (sym c.unit_of-unit.ensures)) c.in_ok-put_tick_at.ensures

pub returns : goal.returns
returns g c =
    sent_all c.loop-tick.invariant
    (each_none (λ tick. tick_at c.args.page.now (unit_of c.args.step) (tick * c.args.step)) c.loop-tick.tick (c.args.last + 1) (omega (arith, c.loop-tick-test.false)))
