use Rattle.std.proofs.Common.{◌≡◌, ◌≤◌, ◌*◌, take, sum_by}
use Rattle.gates.proofs.gate_list.schedule.total_of.Given as goal

abbrev pub invariant-loop-entry : goal.invariant-loop-entry
invariant-loop-entry l = record {
  sum : l.total ≡ sum_by (λ e. e.interval) (take l.entry-index l.entries);
  room : l.total ≤ 4294967296 * l.entry-index;
}
