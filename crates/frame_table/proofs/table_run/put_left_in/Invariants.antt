use Rattle.std.proofs.Common.{drop, map}
use Rattle.script.proofs.AlertLaws.{HasAlerted}
use Rattle.frame_table.specs.Words.{Sent, judged_rows, left_row, rows_text, waiting_in}
use Rattle.frame_table.proofs.table_run.put_left_in.Given as goal

abbrev pub invariant-loop-place : goal.invariant-loop-place
invariant-loop-place g l = record {
  sent : Sent (g.W.Write.contents l.fn.writer) (g.W.Write.contents l.writer) (rows_text l.streams (map (left_row l.class) (waiting_in l.arrivals l.class))) (rows_text l.streams (drop l.place (map (left_row l.class) (waiting_in l.arrivals l.class))));
  told : HasAlerted g.H.Watch.alerted (judged_rows l.streams (map (left_row l.class) (waiting_in l.arrivals l.class))) (judged_rows l.streams (drop l.place (map (left_row l.class) (waiting_in l.arrivals l.class)))) l.fn.watch l.watch;
}
