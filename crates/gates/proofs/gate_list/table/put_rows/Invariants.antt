use Rattle.std.proofs.Common.{◌≡◌, ◌<◌, ◌≤◌, ℕ, drop, length}
use Rattle.gates.specs.Table.{AreBits, IsRow, closing_at, next_shut}
use Rattle.gates.proofs.gate_list.table.put_rows.Given as goal

abbrev pub invariant-loop-left : goal.invariant-loop-left
invariant-loop-left l = record {
  size : length l.rows ≡ 2056;
  within : l.left ≤ length l.entries;
  bits : AreBits l.bits-2;
  row : IsRow l.rows l.left l.row;
  told : (class i : ℕ) → class < 8 → l.left ≤ i → i ≤ length l.entries → closing_at l.rows i class ≡ next_shut (drop i l.entries) class i (closing_at l.fn.rows (length l.entries) class);
}

abbrev pub decreases-loop-left : goal.decreases-loop-left
decreases-loop-left l = l.left
