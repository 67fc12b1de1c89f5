use Rattle.std.proofs.Common.{◌≡◌, ◌≤◌, ◌+◌, drop}
use Rattle.window_bounds.specs.Beats.{all_before}
use Rattle.window_bounds.proofs.notes.due_at.Given as goal

abbrev pub invariant-loop-i : goal.invariant-loop-i
invariant-loop-i l = record {
  few : l.due ≤ l.i;
  count : l.due + all_before (drop l.i l.lates) (l.t + 1) ≡ all_before l.lates (l.t + 1);
}
