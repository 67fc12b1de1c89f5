use Rattle.std.proofs.Common.{arith, ◌<◌}
use Rattle.shared_bounds.proofs.ForLaws.{on_fewer_of, on_in}
use Rattle.shared_bounds.proofs.place.SharedClass.slot_on.Goals as goal

pub returns-then-steps-eq0-clause-slot : goal.returns-then-steps-eq0-clause-slot
returns-then-steps-eq0-clause-slot c =
    on_fewer_of c.args.self.now c.args.slot c.args.most c.slot_behind.result c.requires.most.0 c.slot_behind.ensures.slot

pub returns-clause-slot : goal.returns-clause-slot
returns-clause-slot c =
    let no = c.if-steps-eq0.false in
    let some : 0 < c.steps-steps.result = omega (arith, no) in
    on_in c.args.self.now c.args.slot c.args.most c.steps-steps.result some c.steps-steps.ensures.most (c.steps-steps.ensures.opened some)
