use Rattle.abstract_port.proofs.RangesLaws.{accepted, acceptable}
use Rattle.abstract_port.proofs.class_map.ranges_law.Goals as goal

pub returns : goal.returns
returns c num_tc ranges = (accepted num_tc ranges, acceptable num_tc ranges)
