use Rattle.std.proofs.Common.{◌≡◌, drop}
use Rattle.drawing.specs.Marks.{grey_after_all, IsInRow, no_grey}
use Rattle.drawing.proofs.marks.has_grey.Given as goal

abbrev pub invariant-loop-shape : goal.invariant-loop-shape
invariant-loop-shape l = record {
  all : grey_after_all l.page l.is_mixed l.shapes no_grey ≡ grey_after_all l.page l.is_mixed (drop l.shape-index l.shapes) l.grey;
  row : IsInRow l.grey;
}
