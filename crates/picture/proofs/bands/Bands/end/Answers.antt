use Rattle.std.proofs.Common.{refl, ◌∙◌, rules, arith}
use Rattle.gates.proofs.TableLaws.{opens_none}
use Rattle.picture.proofs.DrawLaws.{up_to_within}
use Rattle.picture.proofs.bands.Bands.end.Goals as goal

pub step_all-requires : goal.step_all-requires
step_all-requires g c =
    let within = up_to_within c.self.inside.to c.now.result in
    (search rules, omega (arith, c.up_to-upto.ensures, c.now.ensures, within, c.self.invariant.within))

pub returns-clause-same : goal.returns-clause-same
returns-clause-same g c = rw (← c.self.view_is) (refl, refl, refl, refl, refl)

pub returns-clause-classes : goal.returns-clause-classes
returns-clause-classes g c =
    λ class below.
    rw (← c.self.view_is) (c.step_all.ensures class below ∙ (rw (opens_none class, c.up_to-upto.ensures, c.now.ensures) refl))

pub returns-clause-mixed : goal.returns-clause-mixed
returns-clause-mixed g c =
    λ class below.
    rw (← c.self.view_is) (c.step_all-2.ensures class below ∙ (rw (opens_none class, c.up_to-upto.ensures, c.now.ensures) refl))
