use Rattle.std.proofs.Common.{◌++◌, Bool, ℕ, sym, refl, ap, ◌∙◌}
use Rattle.std.proofs.lemmas.Result.{err_from_is_err_and}
use Rattle.text.proofs.Fronts.{sent_exit, sent_last, sent_more, sent_none}
use Rattle.drawing.specs.Picture.{foot_text, ground_text, height_of, marks_text, picture_text}
use Rattle.drawing.proofs.svg.put_picture.Goals as goal

pub returns-in_err-put_ground : goal.returns-in_err-put_ground
returns-in_err-put_ground g c =
    let first = ap (λ (m : Bool). ground_text c.args.page.now (height_of m) ++ (marks_text c.args.page.now c.args.bands.now c.args.shapes.now ++ foot_text m)) (sym c.has_mixed-mixed.ensures)
    ∙ ap (λ (n : ℕ). ground_text c.args.page.now n ++ (marks_text c.args.page.now c.args.bands.now c.args.shapes.now ++ foot_text c.has_mixed-mixed.result)) (sym c.height_of.ensures) in
    let p = err_from_is_err_and c.from_residual.result c.from_residual.ensures.1 in
    let s0 = sent_none (g.W.Write.contents c.args.writer.now) (picture_text c.args.page.now c.args.bands.now c.args.shapes.now) in
    sent_exit _ _ (marks_text c.args.page.now c.args.bands.now c.args.shapes.now ++ foot_text c.has_mixed-mixed.result) p.1 s0 first c.in_err-put_ground.ensures

pub returns-in_err-put_marks : goal.returns-in_err-put_marks
returns-in_err-put_marks g c =
    let first = ap (λ (m : Bool). ground_text c.args.page.now (height_of m) ++ (marks_text c.args.page.now c.args.bands.now c.args.shapes.now ++ foot_text m)) (sym c.has_mixed-mixed.ensures)
    ∙ ap (λ (n : ℕ). ground_text c.args.page.now n ++ (marks_text c.args.page.now c.args.bands.now c.args.shapes.now ++ foot_text c.has_mixed-mixed.result)) (sym c.height_of.ensures) in
    let p = err_from_is_err_and c.from_residual-in_err-put_marks.result c.from_residual-in_err-put_marks.ensures.1 in
    let s0 = sent_none (g.W.Write.contents c.args.writer.now) (picture_text c.args.page.now c.args.bands.now c.args.shapes.now) in
    let s1 = sent_more _ _ (marks_text c.args.page.now c.args.bands.now c.args.shapes.now ++ foot_text c.has_mixed-mixed.result) s0 first c.in_ok-put_ground.ensures in
    sent_exit _ _ (foot_text c.has_mixed-mixed.result) p.1 s1 refl c.in_err-put_marks.ensures

pub returns : goal.returns
returns g c =
    let first = ap (λ (m : Bool). ground_text c.args.page.now (height_of m) ++ (marks_text c.args.page.now c.args.bands.now c.args.shapes.now ++ foot_text m)) (sym c.has_mixed-mixed.ensures)
    ∙ ap (λ (n : ℕ). ground_text c.args.page.now n ++ (marks_text c.args.page.now c.args.bands.now c.args.shapes.now ++ foot_text c.has_mixed-mixed.result)) (sym c.height_of.ensures) in
    let s0 = sent_none (g.W.Write.contents c.args.writer.now) (picture_text c.args.page.now c.args.bands.now c.args.shapes.now) in
    let s1 = sent_more _ _ (marks_text c.args.page.now c.args.bands.now c.args.shapes.now ++ foot_text c.has_mixed-mixed.result) s0 first c.in_ok-put_ground.ensures in
    let s2 = sent_more _ _ (foot_text c.has_mixed-mixed.result) s1 refl c.in_ok-put_marks.ensures in
    sent_last c.put_foot.result _ s2 c.put_foot.ensures
