use Rattle.std.proofs.Common.{◌≡◌, ◌<◌, ◌≤◌, ◌*◌, ◌^◌, ℕ}
use Rattle.gates.specs.Gate.{in_ps, prefix}
use Rattle.delay_bounds.specs.LongestWait.{longest_of, wait_at}
use Rattle.delay_bounds.specs.Walk.{may_by}
use Rattle.delay_bounds.proofs.LongestWaitLaws.{late_for}
use Rattle.delay_bounds.proofs.idle_wait.longest_by.Given as goal

-- where the next entry begins, and the longest wait of the entries so far
abbrev pub invariant-loop-i : goal.invariant-loop-i
invariant-loop-i l = record {
  start : l.start ≡ prefix l.schedule.entries l.i;
  few : l.start ≤ l.i * 2 ^ 42;
  over : (j : ℕ) → j < l.i → wait_at (may_by l.schedule l.class) (in_ps l.schedule.cycle) l.length (late_for l.schedule l.length j) ≤ l.longest;
  within : l.longest ≤ longest_of (may_by l.schedule l.class) (in_ps l.schedule.cycle) l.length (in_ps l.schedule.cycle);
}
