use Rattle.std.proofs.Common.{◌≡◌, ◌≤◌, ◌+◌, ◌*◌, ◌^◌}
use Rattle.gates.specs.Gate.{in_ps, prefix}
use Rattle.burst_bounds.specs.Reach.{AreWindowsSeen}
use Rattle.burst_bounds.proofs.moments.with_windows.Given as goal

abbrev pub invariant-loop-i : goal.invariant-loop-i
invariant-loop-i g l = record {
  end : l.end ≡ in_ps l.schedule.cycle + prefix l.schedule.entries l.i;
  few : l.end ≤ in_ps l.schedule.cycle + l.i * 2 ^ 42;
  seen : AreWindowsSeen l.schedule l.class l.need l.moments l.repeat l.i l.initial.bounds l.bounds;
}
