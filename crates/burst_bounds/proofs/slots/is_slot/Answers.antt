use Rattle.std.proofs.Common.{arith}
use Rattle.gates.specs.Gate.{in_ps}
use Rattle.delay_bounds.specs.Walk.{may_by}
use Rattle.burst_bounds.proofs.SlotLaws.{shown, not_shown}
use Rattle.burst_bounds.proofs.slots.is_slot.Goals as goal

pub returns-in-Some : goal.returns-in-Some
returns-in-Some c =
    let above = c.requires.sound.plan_is.cycle in
    shown (may_by c.args.schedule.now c.args.class) c.args.need c.args.at (in_ps c.args.schedule.now.cycle) (omega (arith, above))
    c.in-Some.found c.in-Some.ensures.fit

pub returns-in-None : goal.returns-in-None
returns-in-None c =
    let above = c.requires.sound.plan_is.cycle in
    not_shown (may_by c.args.schedule.now c.args.class) c.args.need c.args.at (in_ps c.args.schedule.now.cycle) (omega (arith, above))
    c.in-None.ensures.fit
