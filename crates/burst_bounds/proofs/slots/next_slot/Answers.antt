use Rattle.std.proofs.Common.{sym, arith}
use Rattle.gates.specs.Gate.{in_ps}
use Rattle.delay_bounds.specs.Walk.{may_by}
use Rattle.delay_bounds.proofs.GateLaws.{by_repeats}
use Rattle.delay_bounds.proofs.NeverLaws.{none_ever}
use Rattle.delay_bounds.proofs.WaitLaws.{first_is}
use Rattle.burst_bounds.proofs.slots.next_slot.Goals as goal

pub returns-in-Some-clause-slot : goal.returns-in-Some-clause-slot
returns-in-Some-clause-slot c =
    first_is (may_by c.args.schedule.now c.args.class) c.args.need c.args.from (in_ps c.args.schedule.now.cycle) c.in-Some.at
    (sym c.in-Some.ensures.fit)

pub returns-in-None-clause-why : goal.returns-in-None-clause-why
returns-in-None-clause-why c =
    let above = c.requires.sound.plan_is.cycle in
    none_ever (may_by c.args.schedule.now c.args.class) (in_ps c.args.schedule.now.cycle) c.args.need c.args.from (omega (arith, above))
    (λ k. by_repeats c.args.schedule.now above c.args.class k) (sym c.in-None.ensures.fit)
