use Rattle.std.proofs.Common.{◌+◌, ◌++◌, codes, refl}
use Rattle.std.proofs.lemmas.Result.{err_from_is_err_and}
use Rattle.text.proofs.Fronts.{sent_exit, sent_last, sent_more, sent_none}
use Rattle.drawing.specs.Picture.{legend, legend_mark, legend_rect}
use Rattle.drawing.specs.declared.page.TheConstants.{LEFT, LEGEND}
use Rattle.drawing.proofs.svg.put_legend.Goals as goal

pub returns-in_err-put_legend_rect : goal.returns-in_err-put_legend_rect
returns-in_err-put_legend_rect g c =
    let p = err_from_is_err_and c.from_residual.result c.from_residual.ensures.1 in
    let s0 = sent_none (g.W.Write.contents c.args.writer.now) (legend) in
    sent_exit _ _ (legend_rect (codes "f") (LEFT + 70) LEGEND (codes "frame") ++ (legend_mark (codes "w") (LEFT + 142) (codes "v-9m0 5h22") 28 (codes "waits") ++ (legend_mark (codes "d") (LEFT + 216) (codes "l8 -8m0 8l-8 -8") 14 (codes "dropped") ++ legend_mark (codes "c") (LEFT + 290) (codes "v-12") 8 (codes "change")))) p.1 s0 refl c.in_err-put_legend_rect.ensures

pub returns-in_err-put_legend_rect-2 : goal.returns-in_err-put_legend_rect-2
returns-in_err-put_legend_rect-2 g c =
    let p = err_from_is_err_and c.from_residual-in_err-put_legend_rect-2.result c.from_residual-in_err-put_legend_rect-2.ensures.1 in
    let s0 = sent_none (g.W.Write.contents c.args.writer.now) (legend) in
    let s1 = sent_more _ _ (legend_rect (codes "f") (LEFT + 70) LEGEND (codes "frame") ++ (legend_mark (codes "w") (LEFT + 142) (codes "v-9m0 5h22") 28 (codes "waits") ++ (legend_mark (codes "d") (LEFT + 216) (codes "l8 -8m0 8l-8 -8") 14 (codes "dropped") ++ legend_mark (codes "c") (LEFT + 290) (codes "v-12") 8 (codes "change")))) s0 refl c.in_ok-put_legend_rect.ensures in
    sent_exit _ _ (legend_mark (codes "w") (LEFT + 142) (codes "v-9m0 5h22") 28 (codes "waits") ++ (legend_mark (codes "d") (LEFT + 216) (codes "l8 -8m0 8l-8 -8") 14 (codes "dropped") ++ legend_mark (codes "c") (LEFT + 290) (codes "v-12") 8 (codes "change"))) p.1 s1 refl c.in_err-put_legend_rect-2.ensures

pub returns-in_err-put_legend_mark : goal.returns-in_err-put_legend_mark
returns-in_err-put_legend_mark g c =
    let p = err_from_is_err_and c.from_residual-in_err-put_legend_mark.result c.from_residual-in_err-put_legend_mark.ensures.1 in
    let s0 = sent_none (g.W.Write.contents c.args.writer.now) (legend) in
    let s1 = sent_more _ _ (legend_rect (codes "f") (LEFT + 70) LEGEND (codes "frame") ++ (legend_mark (codes "w") (LEFT + 142) (codes "v-9m0 5h22") 28 (codes "waits") ++ (legend_mark (codes "d") (LEFT + 216) (codes "l8 -8m0 8l-8 -8") 14 (codes "dropped") ++ legend_mark (codes "c") (LEFT + 290) (codes "v-12") 8 (codes "change")))) s0 refl c.in_ok-put_legend_rect.ensures in
    let s2 = sent_more _ _ (legend_mark (codes "w") (LEFT + 142) (codes "v-9m0 5h22") 28 (codes "waits") ++ (legend_mark (codes "d") (LEFT + 216) (codes "l8 -8m0 8l-8 -8") 14 (codes "dropped") ++ legend_mark (codes "c") (LEFT + 290) (codes "v-12") 8 (codes "change"))) s1 refl c.in_ok-put_legend_rect-2.ensures in
    sent_exit _ _ (legend_mark (codes "d") (LEFT + 216) (codes "l8 -8m0 8l-8 -8") 14 (codes "dropped") ++ legend_mark (codes "c") (LEFT + 290) (codes "v-12") 8 (codes "change")) p.1 s2 refl c.in_err-put_legend_mark.ensures

pub returns-in_err-put_legend_mark-2 : goal.returns-in_err-put_legend_mark-2
returns-in_err-put_legend_mark-2 g c =
    let p = err_from_is_err_and c.from_residual-in_err-put_legend_mark-2.result c.from_residual-in_err-put_legend_mark-2.ensures.1 in
    let s0 = sent_none (g.W.Write.contents c.args.writer.now) (legend) in
    let s1 = sent_more _ _ (legend_rect (codes "f") (LEFT + 70) LEGEND (codes "frame") ++ (legend_mark (codes "w") (LEFT + 142) (codes "v-9m0 5h22") 28 (codes "waits") ++ (legend_mark (codes "d") (LEFT + 216) (codes "l8 -8m0 8l-8 -8") 14 (codes "dropped") ++ legend_mark (codes "c") (LEFT + 290) (codes "v-12") 8 (codes "change")))) s0 refl c.in_ok-put_legend_rect.ensures in
    let s2 = sent_more _ _ (legend_mark (codes "w") (LEFT + 142) (codes "v-9m0 5h22") 28 (codes "waits") ++ (legend_mark (codes "d") (LEFT + 216) (codes "l8 -8m0 8l-8 -8") 14 (codes "dropped") ++ legend_mark (codes "c") (LEFT + 290) (codes "v-12") 8 (codes "change"))) s1 refl c.in_ok-put_legend_rect-2.ensures in
    let s3 = sent_more _ _ (legend_mark (codes "d") (LEFT + 216) (codes "l8 -8m0 8l-8 -8") 14 (codes "dropped") ++ legend_mark (codes "c") (LEFT + 290) (codes "v-12") 8 (codes "change")) s2 refl c.in_ok-put_legend_mark.ensures in
    sent_exit _ _ (legend_mark (codes "c") (LEFT + 290) (codes "v-12") 8 (codes "change")) p.1 s3 refl c.in_err-put_legend_mark-2.ensures

pub returns : goal.returns
returns g c =
    let s0 = sent_none (g.W.Write.contents c.args.writer.now) (legend) in
    let s1 = sent_more _ _ (legend_rect (codes "f") (LEFT + 70) LEGEND (codes "frame") ++ (legend_mark (codes "w") (LEFT + 142) (codes "v-9m0 5h22") 28 (codes "waits") ++ (legend_mark (codes "d") (LEFT + 216) (codes "l8 -8m0 8l-8 -8") 14 (codes "dropped") ++ legend_mark (codes "c") (LEFT + 290) (codes "v-12") 8 (codes "change")))) s0 refl c.in_ok-put_legend_rect.ensures in
    let s2 = sent_more _ _ (legend_mark (codes "w") (LEFT + 142) (codes "v-9m0 5h22") 28 (codes "waits") ++ (legend_mark (codes "d") (LEFT + 216) (codes "l8 -8m0 8l-8 -8") 14 (codes "dropped") ++ legend_mark (codes "c") (LEFT + 290) (codes "v-12") 8 (codes "change"))) s1 refl c.in_ok-put_legend_rect-2.ensures in
    let s3 = sent_more _ _ (legend_mark (codes "d") (LEFT + 216) (codes "l8 -8m0 8l-8 -8") 14 (codes "dropped") ++ legend_mark (codes "c") (LEFT + 290) (codes "v-12") 8 (codes "change")) s2 refl c.in_ok-put_legend_mark.ensures in
    let s4 = sent_more _ _ (legend_mark (codes "c") (LEFT + 290) (codes "v-12") 8 (codes "change")) s3 refl c.in_ok-put_legend_mark-2.ensures in
    sent_last c.put_legend_mark-3.result _ s4 c.put_legend_mark-3.ensures
