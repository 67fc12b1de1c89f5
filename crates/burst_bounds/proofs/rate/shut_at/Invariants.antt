use Rattle.std.proofs.Common.{◌≡◌, ◌<◌, ◌≤◌, ◌*◌, ◌^◌, ℕ, true}
use Rattle.gates.specs.Gate.{prefix}
use Rattle.delay_bounds.specs.Walk.{may_by}
use Rattle.burst_bounds.proofs.rate.shut_at.Given as goal

abbrev pub invariant-loop-i : goal.invariant-loop-i
invariant-loop-i l = record {
  start : l.start ≡ prefix l.schedule.entries l.i;
  few : l.start ≤ l.i * 2 ^ 42;
  shown : (j : ℕ) → j < l.i → may_by l.schedule l.class (prefix l.schedule.entries j) 1 ≡ true;
}
