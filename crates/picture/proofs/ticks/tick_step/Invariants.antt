use Rattle.std.proofs.Common.{◌+◌, ◌-◌, ◌*◌}
use Rattle.picture.proofs.TickLaws.{Stepped}
use Rattle.picture.proofs.ticks.tick_step.Given as goal

abbrev pub invariant-loop-step : goal.invariant-loop-step
invariant-loop-step l = Stepped l.length l.most-2 l.step

abbrev pub decreases-loop-step : goal.decreases-loop-step
decreases-loop-step l = 2 * l.length + 2 - l.step
