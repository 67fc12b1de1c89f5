use Rattle.std.proofs.Common.{◌-◌, None, ap, sym, subst, arith}
use Rattle.gates.specs.Cycle.{Cycle}
use Rattle.gates.proofs.PhaseLaws.{last_mask_at_end}
use Rattle.jumping.specs.Position.{IsPlaced}
use Rattle.jumping.proofs.list_position.Position.first.Goals as goal

pub begin_cycle-requires-clause-last : goal.begin_cycle-requires-clause-last
begin_cycle-requires-clause-last c =
    let count = c.len.ensures.count in
    let some = (c.requires.sound.plan_is).entries in
    sym (last_mask_at_end c.args.schedule.now.entries (c.len.result - 1) c.entry-last.result c.entry-last.ensures.entry (omega (arith, count, some)))

pub returns-clause-placed : goal.returns-clause-placed
returns-clause-placed c =
    let plan = c.args.schedule.now in
    let at = ap (λ (t : Cycle). t.started) c.timer_from-timer.ensures in
    subst (λ m. IsPlaced plan c.args.start None m c.begin_cycle.result) at (c.begin_cycle.ensures.placed c.args.start 0 (omega (arith, at)) tt)
