use Rattle.std.proofs.Common.{◌≡◌, ◌≢◌, ◌<◌, ◌≤◌, ◌+◌, ℕ, cond, get_or, length}
use Rattle.gates.specs.Gate.{opens}
use Rattle.gates.specs.Table.{closing_at}
use Rattle.gates.proofs.gate_list.table.put_row.Given as goal

abbrev pub invariant-loop-class : goal.invariant-loop-class
invariant-loop-class l = record {
  size : length l.rows ≡ 2056;
  eight : length l.row ≡ 8;
  kept : (k : ℕ) → k < l.class → get_or l.row k 0 ≡ closing_at l.rows l.slot k;
  ahead : (k : ℕ) → l.class ≤ k → k < 8 → get_or l.row k 0 ≡ closing_at l.fn.rows (l.slot + 1) k;
  row : (k : ℕ) → k < l.class → closing_at l.rows l.slot k ≡ cond (opens l.mask k) (closing_at l.fn.rows (l.slot + 1) k) l.slot;
  others : (i k : ℕ) → k < 8 → i ≢ l.slot → closing_at l.rows i k ≡ closing_at l.fn.rows i k;
}
