use Rattle.std.proofs.Common.{◌++◌, List, sym, refl, ap}
use Rattle.std.proofs.lemmas.Result.{err_from_is_err_and}
use Rattle.text.proofs.Fronts.{sent_exit, sent_last, sent_more, sent_none}
use Rattle.picture.specs.declared.span.Shape.{Shape}
use Rattle.drawing.specs.Marks.{changes_text}
use Rattle.drawing.specs.Picture.{lanes_text, marks_text}
use Rattle.drawing.proofs.TextLaws.{sent_as}
use Rattle.drawing.proofs.svg.put_marks.Goals as goal

pub returns-in_err-put_all_bands : goal.returns-in_err-put_all_bands
returns-in_err-put_all_bands g c =
    let p = err_from_is_err_and c.from_residual.result c.from_residual.ensures.1 in
    let s0 = sent_none (g.W.Write.contents c.args.writer.now) (marks_text c.args.page.now c.args.bands.now c.args.shapes.now) in
    sent_exit _ _ (lanes_text c.args.page.now c.args.shapes.now ++ changes_text c.args.page.now 0 c.args.shapes.now.changes.shapes) p.1 s0 refl c.in_err-put_all_bands.ensures

pub returns-in_err-put_lanes : goal.returns-in_err-put_lanes
returns-in_err-put_lanes g c =
    let p = err_from_is_err_and c.from_residual-in_err-put_lanes.result c.from_residual-in_err-put_lanes.ensures.1 in
    let s0 = sent_none (g.W.Write.contents c.args.writer.now) (marks_text c.args.page.now c.args.bands.now c.args.shapes.now) in
    let s1 = sent_more _ _ (lanes_text c.args.page.now c.args.shapes.now ++ changes_text c.args.page.now 0 c.args.shapes.now.changes.shapes) s0 refl c.in_ok-put_all_bands.ensures in
    sent_exit _ _ (changes_text c.args.page.now 0 c.args.shapes.now.changes.shapes) p.1 s1 refl c.in_err-put_lanes.ensures

pub returns : goal.returns
returns g c =
    let s0 = sent_none (g.W.Write.contents c.args.writer.now) (marks_text c.args.page.now c.args.bands.now c.args.shapes.now) in
    let s1 = sent_more _ _ (lanes_text c.args.page.now c.args.shapes.now ++ changes_text c.args.page.now 0 c.args.shapes.now.changes.shapes) s0 refl c.in_ok-put_all_bands.ensures in
    let s2 = sent_more _ _ (changes_text c.args.page.now 0 c.args.shapes.now.changes.shapes) s1 refl c.in_ok-put_lanes.ensures in
    sent_last c.put_change_marks.result _ (sent_as _ (ap (λ (xs : List Shape). changes_text c.args.page.now 0 xs) (sym c.changes.ensures)) s2) c.put_change_marks.ensures
