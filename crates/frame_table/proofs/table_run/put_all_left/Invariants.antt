use Rattle.std.proofs.Common.{◌-◌}
use Rattle.script.proofs.AlertLaws.{HasAlerted}
use Rattle.frame_table.specs.Words.{Sent, judged_rows, left_from, left_rows, rows_text}
use Rattle.frame_table.proofs.table_run.put_all_left.Given as goal

abbrev pub invariant-loop-class : goal.invariant-loop-class
invariant-loop-class g l = record {
  sent : Sent (g.W.Write.contents l.fn.writer) (g.W.Write.contents l.writer) (rows_text l.streams (left_rows l.arrivals)) (rows_text l.streams (left_from (8 - l.class) l.class l.arrivals));
  told : HasAlerted g.H.Watch.alerted (judged_rows l.streams (left_rows l.arrivals)) (judged_rows l.streams (left_from (8 - l.class) l.class l.arrivals)) l.fn.watch l.watch;
}
