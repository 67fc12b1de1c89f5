use Rattle.std.proofs.Common.{sym}
use Rattle.traffic.proofs.CourseLaws.{none_reached}
use Rattle.traffic.proofs.turn.Turn.first.Goals as goal

pub invariant_of-result-clause-last : goal.invariant_of-result-clause-last
invariant_of-result-clause-last c = sym (none_reached c.args.course)
