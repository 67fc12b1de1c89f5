use Rattle.std.proofs.Common.{take, drop}
use Rattle.std.specs.List.{flat_map}
use Rattle.wire_time.specs.declared.TheConstants.{PRIORITIES}
use Rattle.port_text.specs.Reports.{map_text, class_text}
use Rattle.text.specs.Writes.{Sent}
use Rattle.port_text.proofs.answer_text.reports.put_map.Given as goal

abbrev pub invariant-loop-priority : goal.invariant-loop-priority
invariant-loop-priority g l = Sent (g.W.Write.contents l.fn.writer) (g.W.Write.contents l.writer) (map_text l.map) (flat_map class_text (drop l.priority (take PRIORITIES l.map.classes)))
