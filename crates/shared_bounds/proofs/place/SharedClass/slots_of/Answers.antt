use Rattle.std.proofs.Common.{ap, ◌∙◌}
use Rattle.any_traffic.specs.SharedSlots.{slots_of}
use Rattle.shared_bounds.proofs.place.SharedClass.slots_of.Goals as goal

pub returns-clause-slots : goal.returns-clause-slots
returns-clause-slots c = c.slots_for.ensures.slots ∙ ap (λ k. slots_of k c.args.self.now.pitch) c.need_of.ensures.need
