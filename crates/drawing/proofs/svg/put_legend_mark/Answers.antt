use Rattle.std.proofs.Common.{◌+◌, refl}
use Rattle.std.proofs.lemmas.Result.{err_from_is_err_and}
use Rattle.text.proofs.Fronts.{sent_exit, sent_last, sent_more, sent_none}
use Rattle.drawing.specs.Picture.{legend_mark, legend_text}
use Rattle.drawing.specs.declared.page.TheConstants.{LEGEND}
use Rattle.drawing.proofs.svg.put_legend_mark.Goals as goal

pub returns-in_err-put_legend_path : goal.returns-in_err-put_legend_path
returns-in_err-put_legend_path g c =
    let p = err_from_is_err_and c.from_residual.result c.from_residual.ensures.1 in
    let s0 = sent_none (g.W.Write.contents c.args.writer.now) (legend_mark c.args.look.now c.args.x c.args.path.now c.args.gap c.args.text.now) in
    sent_exit _ _ (legend_text (c.args.x + c.args.gap) LEGEND c.args.text.now) p.1 s0 refl c.in_err-put_legend_path.ensures

pub returns : goal.returns
returns g c =
    let s0 = sent_none (g.W.Write.contents c.args.writer.now) (legend_mark c.args.look.now c.args.x c.args.path.now c.args.gap c.args.text.now) in
    let s1 = sent_more _ _ (legend_text (c.args.x + c.args.gap) LEGEND c.args.text.now) s0 refl c.in_ok-put_legend_path.ensures in
    sent_last c.put_legend_text.result _ s1 c.put_legend_text.ensures
