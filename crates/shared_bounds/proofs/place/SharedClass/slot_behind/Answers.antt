use Rattle.std.proofs.Common.{arith}
use Rattle.shared_bounds.proofs.ForLaws.{on_next}
use Rattle.shared_bounds.proofs.place.SharedClass.slot_behind.Goals as goal

pub returns-in-Ok-clause-slot : goal.returns-in-Ok-clause-slot
returns-in-Ok-clause-slot c =
    on_next c.args.self.now c.args.slot 1 c.in-Ok.at (omega arith) c.in-Ok.ensures.slot c.in-Ok.ensures.later
