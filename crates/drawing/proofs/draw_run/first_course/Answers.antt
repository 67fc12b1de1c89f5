use Rattle.std.proofs.Common.{◌≡◌, ℕ, ap, ◌∙◌, subst}
use Rattle.std.specs.Prelude.{IfOk}
use Rattle.drawing.specs.Course.{Course, nothing_seen}
use Rattle.drawing.specs.Options.{view_of}
use Rattle.drawing.specs.declared.scope.Scope.TheVariants.{Nothing}
use Rattle.drawing.specs.declared.view.View.{View}
use Rattle.drawing.proofs.draw_run.first_course.Goals as goal

pub returns : goal.returns
returns g c =
    let s = c.args.settings in
    let P : Course → Type 0 = λ x. IfOk c.new.result (λ y. y ≡ x) in
    let same = ap (λ (n : ℕ). nothing_seen n c.view-view.result c.lead_of.result) c.room.ensures.value
    ∙ ap (λ (v : View). nothing_seen s.room v c.lead_of.result) c.view-view.ensures
    ∙ ap (λ (n : ℕ). nothing_seen s.room (view_of c.args.options Nothing) n) c.lead_of.ensures.value in
    subst P same c.new.ensures
