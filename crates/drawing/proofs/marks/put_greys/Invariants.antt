use Rattle.std.proofs.Common.{drop}
use Rattle.text.specs.Writes.{Sent}
use Rattle.drawing.specs.Marks.{greys_text, IsInRow, no_grey}
use Rattle.drawing.proofs.marks.put_greys.Given as goal

abbrev pub invariant-loop-shape : goal.invariant-loop-shape
invariant-loop-shape g l = record {
  text : Sent (g.W.Write.contents l.fn.writer) (g.W.Write.contents l.writer) (greys_text l.page l.top l.is_mixed l.shapes no_grey)
      (greys_text l.page l.top l.is_mixed (drop l.shape-index l.shapes) l.grey);
  row : IsInRow l.grey;
}
