use Rattle.std.proofs.Common.{◌-◌}
use Rattle.script.specs.Alerts.{alerts_from}
use Rattle.script.specs.Words.{Sent, left_lines, left_from}
use Rattle.script.proofs.AlertLaws.{HasAlerted}
use Rattle.script.proofs.answers.put_all_left.Given as goal

abbrev pub invariant-loop-class : goal.invariant-loop-class
invariant-loop-class g l = record {
  sent : Sent (g.W.Write.contents l.fn.writer) (g.W.Write.contents l.writer) (left_lines l.port.port) (left_from (8 - l.class) l.class l.port.port);
  alerts : HasAlerted g.H.Watch.alerted (alerts_from 8 0 l.port.port) (alerts_from (8 - l.class) l.class l.port.port) l.fn.watch l.watch;
}
