use Rattle.std.proofs.Common.{◌≡◌, ◌<◌, ◌≤◌, ◌+◌, ◌-◌, ℕ, drop, length, slice_index, take}
use Rattle.gates.specs.Stay.{length_of, slots}
use Rattle.gates.proofs.gate_list.table.put_starts.Given as goal

abbrev pub invariant-loop-i : goal.invariant-loop-i
invariant-loop-i l = record {
  size : length l.starts ≡ 256;
  small : l.start ≤ l.cycle;
  ahead : drop l.i (slots l.entries l.cycle) ≡ slots (drop l.i l.entries) (l.cycle - l.start);
  count : length (slots l.entries l.cycle) ≡ l.i + length (slots (drop l.i l.entries) (l.cycle - l.start));
  start_is : l.i < length l.entries → l.start ≡ length_of (take l.i (slots l.entries l.cycle));
  written : (k : ℕ) → k < l.i → slice_index l.starts k ≡ length_of (take k (slots l.entries l.cycle));
}
