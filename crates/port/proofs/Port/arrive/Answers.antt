use Rattle.std.proofs.Common.{rules}
use Rattle.port.proofs.Port.arrive.Goals as goal

pub drop_in-requires : goal.drop_in-requires
drop_in-requires g c = search rules

pub queue_in-requires : goal.queue_in-requires
queue_in-requires g c = search rules

pub class_for-class-requires : goal.class_for-class-requires
class_for-class-requires g c = search

pub verdict-verdict-requires : goal.verdict-verdict-requires
verdict-verdict-requires g c = search rules
