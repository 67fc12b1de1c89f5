use Rattle.std.proofs.Common.{◌++◌, codes, refl}
use Rattle.std.proofs.lemmas.Result.{err_from_is_err_and}
use Rattle.text.proofs.Fronts.{sent_exit, sent_last, sent_more, sent_none}
use Rattle.drawing.specs.Picture.{foot_text, mixed_legend}
use Rattle.drawing.proofs.svg.put_foot.Goals as goal

pub returns-in_err-put_legend : goal.returns-in_err-put_legend
returns-in_err-put_legend g c =
    let p = err_from_is_err_and c.from_residual.result c.from_residual.ensures.1 in
    let s0 = sent_none (g.W.Write.contents c.args.writer.now) (foot_text c.args.mixed) in
    sent_exit _ _ (mixed_legend c.args.mixed ++ codes "</svg>\n") p.1 s0 refl c.in_err-put_legend.ensures

pub returns-in_err-put_mixed_legend : goal.returns-in_err-put_mixed_legend
returns-in_err-put_mixed_legend g c =
    let p = err_from_is_err_and c.from_residual-in_err-put_mixed_legend.result c.from_residual-in_err-put_mixed_legend.ensures.1 in
    let s0 = sent_none (g.W.Write.contents c.args.writer.now) (foot_text c.args.mixed) in
    let s1 = sent_more _ _ (mixed_legend c.args.mixed ++ codes "</svg>\n") s0 refl c.in_ok-put_legend.ensures in
    sent_exit _ _ (codes "</svg>\n") p.1 s1 refl c.in_err-put_mixed_legend.ensures

pub returns : goal.returns
returns g c =
    let s0 = sent_none (g.W.Write.contents c.args.writer.now) (foot_text c.args.mixed) in
    let s1 = sent_more _ _ (mixed_legend c.args.mixed ++ codes "</svg>\n") s0 refl c.in_ok-put_legend.ensures in
    let s2 = sent_more _ _ (codes "</svg>\n") s1 refl c.in_ok-put_mixed_legend.ensures in
    sent_last c.put.result _ s2 c.put.ensures
