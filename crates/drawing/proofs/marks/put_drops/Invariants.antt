use Rattle.std.proofs.Common.{drop}
use Rattle.text.specs.Writes.{Sent}
use Rattle.drawing.specs.Marks.{drops_text}
use Rattle.drawing.proofs.marks.put_drops.Given as goal

abbrev pub invariant-loop-shape : goal.invariant-loop-shape
invariant-loop-shape g l = Sent (g.W.Write.contents l.fn.writer) (g.W.Write.contents l.writer) (drops_text l.page l.top l.shapes) (drops_text l.page l.top (drop l.shape-index l.shapes))
