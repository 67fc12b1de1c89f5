use Rattle.std.proofs.Common.{◌∙◌, ap}
use Rattle.delay_bounds.specs.Bounds.{first_fit}
use Rattle.gates.specs.Gate.{in_ps}
use Rattle.shared_bounds.specs.Place.{may_of}
use Rattle.shared_bounds.proofs.OpeningLaws.{taken_of}
use Rattle.shared_bounds.proofs.place.SharedClass.taken_at.Goals as goal

pub returns : goal.returns
returns c =
    let it = c.args.self.now in
    taken_of it c.requires.place c.fit.result
    (c.fit.ensures.fit ∙ ap (λ d. first_fit (may_of it) d 0 (in_ps it.schedule.now.cycle)) c.need_of.ensures.need)
