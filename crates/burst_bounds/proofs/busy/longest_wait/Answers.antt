use Rattle.std.proofs.Common.{max, ap, ◌∙◌}
use Rattle.burst_bounds.proofs.BusyLaws.{longer}
use Rattle.burst_bounds.proofs.busy.longest_wait.Goals as goal

pub loop-i-preserved : goal.loop-i-preserved
loop-i-preserved c =
    longer c.args.from c.args.slots.now c.args.moments.now c.loop-i.i c.loop-i.wait c.max-wait.result c.loop-i.invariant
    (c.max-wait.ensures ∙ ap (λ w. max w c.loop-i.wait) c.saturating_sub.ensures)
