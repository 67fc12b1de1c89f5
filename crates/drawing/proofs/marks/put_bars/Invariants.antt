use Rattle.std.proofs.Common.{drop}
use Rattle.text.specs.Writes.{Sent}
use Rattle.drawing.specs.Marks.{bars_text}
use Rattle.drawing.proofs.marks.put_bars.Given as goal

abbrev pub invariant-loop-shape : goal.invariant-loop-shape
invariant-loop-shape g l = Sent (g.W.Write.contents l.fn.writer) (g.W.Write.contents l.writer) (bars_text l.page l.top l.shapes) (bars_text l.page l.top (drop l.shape-index l.shapes))
