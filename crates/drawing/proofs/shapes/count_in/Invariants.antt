use Rattle.std.proofs.Common.{◌≡◌, ◌≤◌, ◌*◌}
use Rattle.drawing.specs.Words.{MOST_SHAPES, shapes_to}
use Rattle.drawing.proofs.shapes.count_in.Given as goal

abbrev pub invariant-loop-lane : goal.invariant-loop-lane
invariant-loop-lane g l = record {
  value : l.count ≡ shapes_to l.lane l.lanes;
  within : l.count ≤ l.lane * MOST_SHAPES;
}
