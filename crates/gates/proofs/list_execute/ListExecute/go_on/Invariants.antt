use Rattle.std.proofs.Common.{◌≡◌, ◌+◌, ◌-◌, ◌*◌, ◌≤◌, ◌<◌, ◌^◌, Some, length, slice_get}
use Rattle.gates.specs.Gate.{prefix}
use Rattle.gates.specs.Walk.{more}
use Rattle.gates.proofs.list_execute.ListExecute.go_on.Given as goal

abbrev pub invariant-loop-index : goal.invariant-loop-index
invariant-loop-index l = record {
  listed : l.index ≤ l.last;
  start : l.start ≡ l.self-inside.began + prefix l.schedule.entries l.index;
  within : l.start ≤ l.self-inside.began + 2 ^ 42 * l.index;
  entry : slice_get l.schedule.entries l.index ≡ Some l.entry;
  begun : prefix l.schedule.entries l.index ≤ l.phase;
  after : l.self-inside.index < l.index;
  counted : l.visits ≡ more l.fn.visits (l.index - l.self-inside.index);
  onward : l.fn.visits ≤ l.visits;
}

abbrev pub decreases-loop-index : goal.decreases-loop-index
decreases-loop-index l = length l.schedule.entries - l.index
