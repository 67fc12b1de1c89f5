use Rattle.port.specs.Words.{IsSoundPort}
use Rattle.abstract_port.proofs.AskedLaws.{Going, left_count}
use Rattle.std.specs.Prelude.{IsTrue}
use Rattle.port.proofs.FewLaws.{HasFew}
use Rattle.port.proofs.StepLaws.{HasStayed}
use Rattle.port.proofs.Port.take_event.Given as goal

abbrev pub invariant-loop-asked : goal.invariant-loop-asked
invariant-loop-asked g l = IsSoundPort l.self.port × Going l.event l.initial.answers.items l.initial.self.port l.asked l.answers.items l.self.port × HasStayed l.event l.initial.self l.asked l.self × HasFew (IsTrue g.G.Gates.JUMPS) l.initial.self l.asked l.self

abbrev pub decreases-loop-asked : goal.decreases-loop-asked
decreases-loop-asked g l = left_count l.asked l.self.port
