use Rattle.std.proofs.Common.{◌≡◌, ◌≤◌, Some}
use Rattle.abstract_port.proofs.AskedLaws.{left_count}
use Rattle.script.proofs.AlertLaws.{HasAlerted}
use Rattle.frame_table.specs.Words.{Clock, IsSoundPort, Sent, answers_to, judged_rows, rows_at, rows_text, settled}
use Rattle.frame_table.proofs.table_run.take_starts.Given as goal

-- What is written and the rows of the starts to come are those of all, and so is what is told, and what waits after them.
abbrev pub invariant-loop-start : goal.invariant-loop-start
invariant-loop-start g l = record {
  sent : Sent (g.W.Write.contents l.fn.writer) (g.W.Write.contents l.writer) (rows_text l.streams (rows_at (Clock l.until) l.fn.port.port l.fn.arrivals).0) (rows_text l.streams (rows_at (Clock l.until) l.port.port l.arrivals).0);
  told : HasAlerted g.H.Watch.alerted (judged_rows l.streams (rows_at (Clock l.until) l.fn.port.port l.fn.arrivals).0) (judged_rows l.streams (rows_at (Clock l.until) l.port.port l.arrivals).0) l.fn.watch l.watch;
  same_waiting : (rows_at (Clock l.until) l.port.port l.arrivals).1 ≡ (rows_at (Clock l.until) l.fn.port.port l.fn.arrivals).1;
  same_end : settled (answers_to (Clock l.until) l.port.port).1 ≡ settled (answers_to (Clock l.until) l.fn.port.port).1;
  later : l.port.port.now ≤ l.until;
  sound : IsSoundPort l.port.port;
}

abbrev pub decreases-loop-start : goal.decreases-loop-start
decreases-loop-start g l = left_count (Some (Clock l.until)) l.port.port
