use Rattle.std.proofs.Common.{◌≡◌, ◌+◌, ◌-◌, ◌++◌, codes, sym, ap, ◌∙◌}
use Rattle.std.proofs.lemmas.Result.{err_from_is_err_and}
use Rattle.text.proofs.Fronts.{sent_exit, sent_last, sent_more, sent_none}
use Rattle.drawing.specs.Marks.{bar_of, bar_text, number_text, rect_text}
use Rattle.drawing.specs.declared.page.Place.{Place}
use Rattle.drawing.specs.declared.page.TheConstants.{LANE_HEIGHT}
use Rattle.drawing.proofs.marks.put_bar.Goals as goal

pub returns-in_err-put_rect : goal.returns-in_err-put_rect
returns-in_err-put_rect g c =
    let p = err_from_is_err_and c.from_residual.result c.from_residual.ensures.1 in
    let here = g.W.Write.contents c.args.writer.now in
    let shown : bar_text c.args.page.now c.args.top c.args.shape.now ≡ rect_text (codes "f") c.place-place.result.left c.place-place.result.width (c.args.top + 10) (LANE_HEIGHT - 12) ++ number_text c.place-place.result c.args.top c.args.shape.now.id =
    ap (bar_of c.args.page.now c.args.top c.args.shape.now.id) (sym c.cut.ensures.cut ∙ c.in-Some.is)
    ∙ ap (λ (q : Place). rect_text (codes "f") q.left q.width (c.args.top + 10) (LANE_HEIGHT - 12) ++ number_text q c.args.top c.args.shape.now.id) (sym c.place-place.ensures.place) in
    sent_exit _ _ _ p.1 (sent_none here (bar_text c.args.page.now c.args.top c.args.shape.now)) shown c.in_err-put_rect.ensures

pub returns : goal.returns
returns g c =
    let here = g.W.Write.contents c.args.writer.now in
    let shown : bar_text c.args.page.now c.args.top c.args.shape.now ≡ rect_text (codes "f") c.place-place.result.left c.place-place.result.width (c.args.top + 10) (LANE_HEIGHT - 12) ++ number_text c.place-place.result c.args.top c.args.shape.now.id =
    ap (bar_of c.args.page.now c.args.top c.args.shape.now.id) (sym c.cut.ensures.cut ∙ c.in-Some.is)
    ∙ ap (λ (q : Place). rect_text (codes "f") q.left q.width (c.args.top + 10) (LANE_HEIGHT - 12) ++ number_text q c.args.top c.args.shape.now.id) (sym c.place-place.ensures.place) in
    sent_last c.put_number.result _ (sent_more _ _ _ (sent_none here (bar_text c.args.page.now c.args.top c.args.shape.now)) shown c.in_ok-put_rect.ensures) c.put_number.ensures
