use Rattle.std.proofs.Common.{drop}
use Rattle.text.specs.Writes.{Sent}
use Rattle.drawing.specs.Marks.{changes_text}
use Rattle.drawing.proofs.marks.put_change_marks.Given as goal

abbrev pub invariant-loop-shape : goal.invariant-loop-shape
invariant-loop-shape g l =
    Sent (g.W.Write.contents l.fn.writer) (g.W.Write.contents l.writer) (changes_text l.page 0 l.shapes) (changes_text l.page l.free (drop l.shape-index l.shapes))
