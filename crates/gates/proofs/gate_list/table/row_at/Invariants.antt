use Rattle.std.proofs.Common.{◌≡◌, ◌<◌, ℕ, get_or, length}
use Rattle.gates.specs.Table.{closing_at}
use Rattle.gates.proofs.gate_list.table.row_at.Given as goal

abbrev pub invariant-loop-class : goal.invariant-loop-class
invariant-loop-class l = record {
  size : length l.row ≡ 8;
  written : (k : ℕ) → k < l.class → get_or l.row k 0 ≡ closing_at l.rows l.slot k;
}
