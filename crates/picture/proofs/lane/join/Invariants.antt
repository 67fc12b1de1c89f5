use Rattle.picture.specs.Words.{are_joined}
use Rattle.picture.proofs.LaneLaws.{Joining}
use Rattle.picture.proofs.lane.join.Given as goal

abbrev pub invariant-loop-next : goal.invariant-loop-next
invariant-loop-next l = Joining (are_joined l.gap l.only_short) l.initial.shapes l.shapes l.last l.next
