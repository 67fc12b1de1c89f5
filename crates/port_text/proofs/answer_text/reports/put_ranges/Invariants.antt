use Rattle.std.proofs.Common.{drop}
use Rattle.std.specs.List.{flat_map}
use Rattle.port_text.specs.Reports.{ranges_text, range_text}
use Rattle.text.specs.Writes.{Sent}
use Rattle.port_text.proofs.answer_text.reports.put_ranges.Given as goal

abbrev pub invariant-loop-class : goal.invariant-loop-class
invariant-loop-class g l = Sent (g.W.Write.contents l.fn.writer) (g.W.Write.contents l.writer) (ranges_text l.queues) (flat_map range_text (drop l.class l.queues))
