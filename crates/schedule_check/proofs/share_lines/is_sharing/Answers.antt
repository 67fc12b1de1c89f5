use Rattle.std.proofs.Common.{rules}
use Rattle.schedule_check.proofs.SharingLaws.{told_shared}
use Rattle.schedule_check.proofs.share_lines.is_sharing.Goals as goal

pub returns-then-other-class : goal.returns-then-other-class
returns-then-other-class c =
    let told = told_shared c.args.schedule.now c.args.class c.args.other c.shares_windows.result (rw c.cycle_ns-cycle.ensures.value at c.cycle_ns-cycle.ensures.above) c.shares_windows.ensures in
    search rules
