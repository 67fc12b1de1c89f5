use Rattle.std.proofs.Common.{◌≡◌, ◌++◌, ℕ, sym, ap, ◌∙◌}
use Rattle.std.proofs.lemmas.Result.{err_from_is_err_and}
use Rattle.text.proofs.Fronts.{sent_exit, sent_last, sent_more, sent_none}
use Rattle.drawing.specs.Marks.{at_x, cross_text, drop_of, drop_text, second_cross}
use Rattle.drawing.proofs.marks.put_drop.Goals as goal

pub returns-in_err-put_cross : goal.returns-in_err-put_cross
returns-in_err-put_cross g c =
    let p = err_from_is_err_and c.from_residual.result c.from_residual.ensures.1 in
    let here = g.W.Write.contents c.args.writer.now in
    let shown : drop_text c.args.page.now c.args.top c.args.shape.now ≡ cross_text c.x-left.result c.args.top ++ second_cross c.x-left.result c.x-right.result =
    ap (drop_of c.args.page.now c.args.top) (sym c.cut.ensures.cut ∙ c.in-Some.is)
    ∙ ap (λ (x : ℕ). cross_text x c.args.top ++ second_cross x (at_x c.args.page.now c.in-Some.span.to)) (sym c.x-left.ensures.place)
    ∙ ap (λ (x : ℕ). cross_text c.x-left.result c.args.top ++ second_cross c.x-left.result x) (sym c.x-right.ensures.place) in
    sent_exit _ _ _ p.1 (sent_none here (drop_text c.args.page.now c.args.top c.args.shape.now)) shown c.in_err-put_cross.ensures

pub returns : goal.returns
returns g c =
    let here = g.W.Write.contents c.args.writer.now in
    let shown : drop_text c.args.page.now c.args.top c.args.shape.now ≡ cross_text c.x-left.result c.args.top ++ second_cross c.x-left.result c.x-right.result =
    ap (drop_of c.args.page.now c.args.top) (sym c.cut.ensures.cut ∙ c.in-Some.is)
    ∙ ap (λ (x : ℕ). cross_text x c.args.top ++ second_cross x (at_x c.args.page.now c.in-Some.span.to)) (sym c.x-left.ensures.place)
    ∙ ap (λ (x : ℕ). cross_text c.x-left.result c.args.top ++ second_cross c.x-left.result x) (sym c.x-right.ensures.place) in
    sent_last c.put_second_cross.result _ (sent_more _ _ _ (sent_none here (drop_text c.args.page.now c.args.top c.args.shape.now)) shown c.in_ok-put_cross.ensures) c.put_second_cross.ensures
