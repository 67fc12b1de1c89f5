use Rattle.std.proofs.Common.{◌≡◌, ◌≤◌, Some}
use Rattle.std.specs.Prelude.{⊤}
use Rattle.script.proofs.FewLaws.{HasFew}
use Rattle.script.specs.Words.{settled, answers_to, IsSoundPort, Clock, Sent, noted_all, noted_at}
use Rattle.abstract_port.proofs.AskedLaws.{left_count}
use Rattle.script.proofs.OutputLaws.{lines_of_answers}
use Rattle.script.proofs.answers.put_each_start.Given as goal

-- What is written and the lines of the starts to come are those of all, and so is what is seen of them.
abbrev pub invariant-loop-start : goal.invariant-loop-start
invariant-loop-start g l = record {
  sent : Sent (g.W.Write.contents l.fn.writer) (g.W.Write.contents l.writer) (lines_of_answers (answers_to (Clock l.until) l.fn.port.port).0) (lines_of_answers (answers_to (Clock l.until) l.port.port).0);
  same_seen : noted_all l.now (answers_to (Clock l.until) l.port.port).0 l.summary ≡ noted_at (Clock l.until) l.fn.port.port l.fn.summary;
  same_end : settled (answers_to (Clock l.until) l.port.port).1 ≡ settled (answers_to (Clock l.until) l.fn.port.port).1;
  few : HasFew ⊤ l.fn.port (Some (Clock l.until)) l.port;
  later : l.port.port.now ≤ l.until;
  sound : IsSoundPort l.port.port;
}

abbrev pub decreases-loop-start : goal.decreases-loop-start
decreases-loop-start g l = left_count (Some (Clock l.until)) l.port.port
