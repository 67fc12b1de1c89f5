use Rattle.std.proofs.Common.{List, ℕ, ap, ap₂, ◌∙◌, subst}
use Rattle.std.specs.Prelude.{max}
use Rattle.abstract_port.specs.declared.Event.TheVariants.{Clock}
use Rattle.text.specs.Writes.{Writes}
use Rattle.drawing.specs.Course.{Course, ended_at, seen_at}
use Rattle.drawing.specs.Picture.{fitted_text}
use Rattle.drawing.specs.PictureEnd.{page_of}
use Rattle.drawing.specs.declared.page.Page.{Page}
use Rattle.drawing.specs.declared.scope.Scope.{Scope}
use Rattle.drawing.specs.Followed.{FollowedAndEnded}
use Rattle.drawing.specs.Options.{view_of}
use Rattle.drawing.specs.declared.view.View.{View}
use Rattle.drawing.proofs.draw_run.draw_shown.Goals as goal

pub returns : goal.returns
returns g c =
    let bands = c.end_bands.new.bands in
    let page = c.page_of-page.ensures ∙ ap (λ (y : Scope). page_of c.args.settings c.args.options y c.args.viewport) c.scope-scope.ensures in
    let course = c.end_course.ensures.course ∙ ap (λ (to : ℕ). ended_at to (seen_at (Clock to) c.args.port.now.port c.args.course.now)) c.to.ensures.value in
    let P : List ℕ → Type 0 = λ t. Writes c.put_course.result (g.W.Write.contents c.args.writer.now) (g.W.Write.contents c.put_course.new.writer) t in
    let view = c.view.ensures ∙ ap (λ (y : Scope). view_of c.args.options y) c.scope-scope.ensures in
    let now = c.max.ensures ∙ ap (λ (to : ℕ). max c.args.asked to) c.to-2.ensures.value in
    let shown = subst (λ (v : View). FollowedAndEnded v (max c.args.asked c.args.viewport.to) c.args.bands.now bands) view (subst (λ (n : ℕ). FollowedAndEnded c.view.result n c.args.bands.now bands) now c.end_bands.ensures) in
    (bands, (c.put_course.ensures.few, (shown, subst P (ap₂ (λ (q : Page) (y : Course). fitted_text q bands y.shown) page course) c.put_course.ensures.text)))
