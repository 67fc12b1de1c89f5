use Rattle.std.proofs.Common.{◌≡◌, ◌<◌, ◌≤◌, ◌^◌, ℕ, length, slice_index}
use Rattle.gates.proofs.gate_list.table.class_bits.Given as goal

abbrev pub invariant-loop-class : goal.invariant-loop-class
invariant-loop-class l = record {
  size : length l.bits ≡ 8;
  above : 1 ≤ l.class;
  bits : (k : ℕ) → k < l.class → slice_index l.bits k ≡ 2 ^ k;
}
