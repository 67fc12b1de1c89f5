use Rattle.std.proofs.lemmas.List.{at_drop_more}
use Rattle.std.proofs.lemmas.Result.{err_from_is_err_and}
use Rattle.text.proofs.Fronts.{sent_more, sent_exit}
use Rattle.drawing.specs.Marks.{bars_text}
use Rattle.drawing.proofs.marks.put_bars.Goals as goal

pub returns-in_err-put_bar : goal.returns-in_err-put_bar
returns-in_err-put_bar g c =
    let p = err_from_is_err_and c.from_residual.result c.from_residual.ensures.1 in
    sent_exit _ _ _ p.1 c.loop-shape.invariant (at_drop_more (bars_text c.args.page.now c.args.top) _ c.loop-shape.shape-index _ c.loop-shape-test.true) c.in_err-put_bar.ensures

pub loop-shape-preserved : goal.loop-shape-preserved
loop-shape-preserved g c =
    sent_more _ _ _ c.loop-shape.invariant (at_drop_more (bars_text c.args.page.now c.args.top) _ c.loop-shape.shape-index _ c.loop-shape-test.true) c.in_ok-put_bar.ensures
