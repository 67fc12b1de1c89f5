use Rattle.std.proofs.Common.{List, ℕ, ap, ◌∙◌, subst}
use Rattle.text.specs.Writes.{Writes}
use Rattle.drawing.specs.Course.{Course}
use Rattle.drawing.specs.Picture.{picture_text}
use Rattle.drawing.specs.Shapes.{Shown}
use Rattle.drawing.proofs.FitLaws.{fitted}
use Rattle.drawing.proofs.draw_run.put_course.Goals as goal

pub returns-clause-text : goal.returns-clause-text
returns-clause-text g c =
    let fit = c.fit.ensures in
    let text = ap (λ (x : Shown). picture_text c.args.page.now c.args.bands.now x) c.shapes.ensures
    ∙ fitted c.args.page.now c.args.bands.now c.args.course.now.shown c.fit.new.course.shown (λ short. ap (λ (x : Course). x.shown) (fit.few short)) fit.shapes in
    let P : List ℕ → Type 0 = λ t. Writes c.put_picture.result (g.W.Write.contents c.args.writer.now) (g.W.Write.contents c.put_picture.new.writer) t in
    subst P text c.put_picture.ensures
