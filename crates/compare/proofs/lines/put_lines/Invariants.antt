use Rattle.std.proofs.Common.{drop}
use Rattle.text.specs.Writes.{Sent}
use Rattle.compare.specs.Lines.{compared_lines}
use Rattle.compare.proofs.lines.put_lines.Given as goal

abbrev pub invariant-loop-compared : goal.invariant-loop-compared
invariant-loop-compared g l = Sent (g.W.Write.contents l.fn.writer) (g.W.Write.contents l.writer) (compared_lines l.all) (compared_lines (drop l.compared-index l.all))
