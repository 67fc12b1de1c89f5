use Rattle.std.proofs.Common.{◌≡◌, ◌<◌, ◌≤◌, ◌-◌, ℕ, length, take}
use Rattle.gates.specs.Gate.{opens}
use Rattle.gates.specs.Table.{all_open}
use Rattle.gates.proofs.gate_list.table.common_mask.Given as goal

abbrev pub invariant-loop-count : goal.invariant-loop-count
invariant-loop-count l = record {
  within : l.count ≤ length l.entries;
  told : (class : ℕ) → class < 8 → opens l.open class ≡ all_open (take l.count l.entries) class;
}

abbrev pub decreases-loop-count : goal.decreases-loop-count
decreases-loop-count l = length l.entries - l.count
