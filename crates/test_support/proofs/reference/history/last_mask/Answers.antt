use Rattle.std.proofs.Common.{◌-◌, sym, arith}
use Rattle.gates.proofs.PhaseLaws.{last_mask_at_end}
use Rattle.test_support.proofs.reference.history.last_mask.Goals as goal

pub returns : goal.returns
returns c =
    let count = c.len.ensures.count in
    let some = (c.len.ensures.sound.plan_is).entries in
    sym (last_mask_at_end c.args.schedule.now.entries (c.len.result - 1) c.entry.result c.entry.ensures.entry (omega (arith, count, some)))
