use Rattle.std.proofs.Common.{◌≡◌}
use Rattle.std.specs.Prelude.{⊤}
use Rattle.script.proofs.FewLaws.{HasFew}
use Rattle.drawing.specs.Words.{settled, answers_to, answers_left, seen_all}
use Rattle.abstract_port.proofs.AskedLaws.{left_count}
use Rattle.drawing.proofs.draw_run.take.Given as goal

-- What is drawn, and then the answers to come, are what all of them draw.
abbrev pub invariant-loop-answer : goal.invariant-loop-answer
invariant-loop-answer g l = record {
  seen : seen_all l.now l.beside (answers_left l.asked l.port.port).0 l.course ≡ seen_all l.now l.beside (answers_to l.event l.fn.port.port).0 l.fn.course;
  few : HasFew ⊤ l.fn.port l.asked l.port;
  same_end : settled (answers_left l.asked l.port.port).1 ≡ settled (answers_to l.event l.fn.port.port).1;
}

abbrev pub decreases-loop-answer : goal.decreases-loop-answer
decreases-loop-answer g l = left_count l.asked l.port.port
