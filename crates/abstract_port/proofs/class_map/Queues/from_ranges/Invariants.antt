use Rattle.std.proofs.Common.{◌≡◌, take}
use Rattle.abstract_port.proofs.class_map.Queues.from_ranges.Given as goal

abbrev pub invariant-loop-range : goal.invariant-loop-range
invariant-loop-range l = l.queues ≡ take l.range-index l.ranges
