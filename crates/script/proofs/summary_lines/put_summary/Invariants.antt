-- What is written is followed by the lines of the classes to come and that of the wire.
use Rattle.std.proofs.Common.{◌-◌, ◌++◌}
use Rattle.text.specs.Writes.{Sent}
use Rattle.summary.specs.Lines.{classes_from, summary_lines, wire_text}
use Rattle.script.proofs.summary_lines.put_summary.Given as goal

abbrev pub invariant-loop-class : goal.invariant-loop-class
invariant-loop-class g l =
    let p = record l.port.port { now = l.moment } in
    Sent (g.W.Write.contents l.fn.writer) (g.W.Write.contents l.writer) (summary_lines p l.summary) (classes_from (8 - l.class) l.class p l.summary ++ wire_text l.moment l.summary)
