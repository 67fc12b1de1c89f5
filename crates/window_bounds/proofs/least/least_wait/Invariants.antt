use Rattle.std.proofs.Common.{◌≡◌, ◌<◌, ◌-◌}
use Rattle.gates.specs.Gate.{in_ps}
use Rattle.delay_bounds.specs.Walk.{may_by}
use Rattle.window_bounds.specs.Flows.{periodic_of}
use Rattle.window_bounds.proofs.LeastLaws.{AreSeen, phase}
use Rattle.window_bounds.proofs.least.least_wait.Given as goal

abbrev pub invariant-loop-n : goal.invariant-loop-n
invariant-loop-n l = record {
  seen : AreSeen (may_by l.schedule l.class) (in_ps l.schedule.cycle) (periodic_of l.flow) l._n l.least;
  from : l.from ≡ phase (in_ps l.schedule.cycle) l.flow.offset l.flow.period (l._n - 1);
  some : 0 < l._n;
}
