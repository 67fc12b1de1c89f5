use Rattle.std.proofs.Common.{◌≡◌, ◌<◌, ℕ, length, slice_get, Some}
use Rattle.gates.specs.Table.{stay_at}
use Rattle.gates.proofs.gate_list.table.stays_at.Given as goal

abbrev pub invariant-loop-class : goal.invariant-loop-class
invariant-loop-class l = record {
  size : length l.stays ≡ 8;
  told : (k : ℕ) → k < l.class → slice_get l.stays k ≡ Some (stay_at l.table k l.i);
}
