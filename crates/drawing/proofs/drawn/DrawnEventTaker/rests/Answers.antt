use Rattle.std.proofs.Common.{refl, ap, ◌∙◌}
use Rattle.drawing.specs.Options.{view_of}
use Rattle.drawing.proofs.FollowLaws.{rested}
use Rattle.drawing.proofs.drawn.DrawnEventTaker.rests.Goals as goal

pub returns-clause-rests : goal.returns-clause-rests
returns-clause-rests g c = λ w h yes.
    rested c.args.event.now c.args.self.now _ c.view-view.result (c.rests.ensures.rests c.if-not-rests.false) refl (c.view-view.ensures ∙ ap (view_of c.args.self.now.options) c.scope.ensures) c.follow.ensures refl refl
