use Rattle.std.proofs.Common.{ℕ, ap, ◌∙◌, subst}
use Rattle.drawing.specs.Words.{Course, answers_to}
use Rattle.drawing.specs.Options.{view_of}
use Rattle.drawing.specs.Followed.{IsFollowed}
use Rattle.drawing.specs.declared.view.View.{View}
use Rattle.drawing.proofs.FollowLaws.{moved}
use Rattle.drawing.proofs.draw_run.take_asked.Goals as goal

pub returns-clause-bands : goal.returns-clause-bands
returns-clause-bands g c =
    let view = c.view.ensures ∙ ap (view_of c.args.options) (c.scope.ensures ∙ ap (λ (x : Course). x.scope) c.take.ensures.course) in
    let now = ap (λ p. p.now) c.take.ensures.port in
    moved c.args.settings c.args.options c.args.event.now c.args.port.now.port c.args.course.now c.args.bands.now c.follow.new.bands c.in_default.ensures
    (subst (λ (v : View). IsFollowed v (answers_to c.args.event.now c.args.port.now.port).1.now c.args.bands.now c.follow.new.bands) view (subst (λ (n : ℕ). IsFollowed c.view.result n c.args.bands.now c.follow.new.bands) now c.follow.ensures))
