use Rattle.std.proofs.Common.{refl, ◌∙◌}
use Rattle.picture.specs.Words.{accepted_at, plan_fault, plan_asked}
use Rattle.picture.proofs.CommandLaws.{not_planned, planned, same_drawing}
use Rattle.picture.proofs.bands.Bands.replace.Goals as goal

pub returns-in-Ok-clause-drawing : goal.returns-in-Ok-clause-drawing
returns-in-Ok-clause-drawing g c =
    let made = planned (plan_fault c.args.rate (plan_asked c.args.change.now)) (plan_asked c.args.change.now) c.in-Ok.schedule c.self.inside.gates.history c.self.inside.gates.moment c.args.lead c.in-Ok.ensures in
    rw (← c.self.view_is)
    (same_drawing _ _ _ _ c.self.inside.from c.self.inside.to c.self.inside.classes c.self.inside.mixed c.self.inside.left (c.install.ensures.history ∙ made) c.install.ensures.moment)

pub returns-in-Ok-clause-hindsight : goal.returns-in-Ok-clause-hindsight
returns-in-Ok-clause-hindsight g c = rw (← c.self.view_is) c.install.ensures.hindsight

pub install-requires : goal.install-requires
install-requires g c = record { sound = c.self.invariant; ahead = rw (← c.self.view_is) at c.requires.ahead; within = c.requires.within }

pub returns-in-Err-clause-drawing : goal.returns-in-Err-clause-drawing
returns-in-Err-clause-drawing g c =
    let kept = not_planned (plan_fault c.args.rate (plan_asked c.args.change.now)) (plan_asked c.args.change.now) c.in-Err.field-0 c.self.inside.gates.history c.self.inside.gates.moment (accepted_at c.args.lead (plan_asked c.args.change.now)) c.in-Err.ensures in
    rw (← c.self.view_is)
    (same_drawing _ _ c.self.inside.gates.moment c.self.inside.gates.moment c.self.inside.from c.self.inside.to c.self.inside.classes c.self.inside.mixed c.self.inside.left kept refl)
