use Rattle.std.proofs.Common.{◌+◌, ℕ, drop, sym, subst}
use Rattle.std.proofs.lemmas.List.{at_drop_more}
use Rattle.std.proofs.lemmas.Result.{err_from_is_err_and}
use Rattle.text.specs.Writes.{Sent}
use Rattle.text.proofs.Fronts.{sent_exit, sent_more}
use Rattle.drawing.specs.Marks.{changes_text}
use Rattle.drawing.proofs.marks.put_change_marks.Goals as goal

pub returns-in_err-free : goal.returns-in_err-free
returns-in_err-free g c =
    let p = err_from_is_err_and c.from_residual.result c.from_residual.ensures.1 in
    sent_exit _ _ _ p.1 c.loop-shape.invariant (at_drop_more (changes_text c.args.page.now c.loop-shape.free) _ c.loop-shape.shape-index _ c.loop-shape-test.true) c.in_err-free.ensures.text

pub loop-shape-preserved : goal.loop-shape-preserved
loop-shape-preserved g c =
    let here = g.W.Write.contents c.args.writer.now in
    let P : ℕ → Type 0 = λ n. Sent here (g.W.Write.contents c.put_change_mark.new.writer) (changes_text c.args.page.now 0 c.args.shapes.now) (changes_text c.args.page.now n (drop (c.loop-shape.shape-index + 1) c.args.shapes.now)) in
    subst P (sym c.in_ok-free.ensures.free)
    (sent_more _ _ _ c.loop-shape.invariant (at_drop_more (changes_text c.args.page.now c.loop-shape.free) _ c.loop-shape.shape-index _ c.loop-shape-test.true) c.in_ok-free.ensures.text)
