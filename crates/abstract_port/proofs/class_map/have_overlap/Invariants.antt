use Rattle.std.proofs.Common.{◌≡◌, length}
use Rattle.abstract_port.specs.Ranges.{have_overlap}
use Rattle.abstract_port.proofs.class_map.have_overlap.Given as goal

abbrev pub invariant-loop-rest : goal.invariant-loop-rest
invariant-loop-rest l = have_overlap l.ranges ≡ have_overlap l.rest

abbrev pub decreases-loop-rest : goal.decreases-loop-rest
decreases-loop-rest l = length l.rest
