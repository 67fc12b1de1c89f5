use Rattle.std.proofs.Common.{◌≡◌}
use Rattle.abstract_port.specs.Ranges.{plain_ranges}
use Rattle.abstract_port.proofs.class_map.Queues.plain.Given as goal

abbrev pub invariant-loop-class : goal.invariant-loop-class
invariant-loop-class l = l.queues ≡ plain_ranges l.class
