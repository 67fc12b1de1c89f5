use Rattle.shared_bounds.proofs.TrafficLaws.{slots_is}
use Rattle.shared_bounds.proofs.above.slots_for.Goals as goal

pub returns-clause-slots : goal.returns-clause-slots
returns-clause-slots c = slots_is c.args.need c.args.pitch
