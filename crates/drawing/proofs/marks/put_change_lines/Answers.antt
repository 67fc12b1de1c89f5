use Rattle.std.proofs.Common.{refl}
use Rattle.std.proofs.lemmas.Result.{err_from_is_err_and}
use Rattle.text.proofs.Fronts.{sent_exit, sent_last, sent_more, sent_none}
use Rattle.drawing.specs.Marks.{change_lines, last_change}
use Rattle.drawing.proofs.marks.put_change_lines.Goals as goal

pub returns-in_err-put_line : goal.returns-in_err-put_line
returns-in_err-put_line g c =
    let p = err_from_is_err_and c.from_residual.result c.from_residual.ensures.1 in
    let s0 = sent_none (g.W.Write.contents c.args.writer.now) (change_lines c.args.left c.args.right) in
    sent_exit _ _ (last_change c.args.left c.args.right) p.1 s0 refl c.in_err-put_line.ensures

pub returns : goal.returns
returns g c =
    let s0 = sent_none (g.W.Write.contents c.args.writer.now) (change_lines c.args.left c.args.right) in
    let s1 = sent_more _ _ (last_change c.args.left c.args.right) s0 refl c.in_ok-put_line.ensures in
    sent_last c.put_last_change.result _ s1 c.put_last_change.ensures
