use Rattle.std.proofs.Common.{◌≡◌, ◌<◌, ◌≤◌, ℕ, length}
use Rattle.gates.specs.Table.{closing_at}
use Rattle.gates.proofs.gate_list.table.put_first.Given as goal

abbrev pub invariant-loop-class : goal.invariant-loop-class
invariant-loop-class l = record {
  size : length l.rows ≡ 2056;
  written : (k : ℕ) → k < l.class → closing_at l.rows l.slot k ≡ closing_at l.fn.rows 0 k;
  left : (k : ℕ) → l.class ≤ k → k < 8 → closing_at l.rows 0 k ≡ closing_at l.fn.rows 0 k;
}
