use Rattle.std.proofs.Common.{◌≡◌}
use Rattle.drawing.specs.Words.{all_wait_on}
use Rattle.drawing.proofs.course.all_wait_on.Given as goal

abbrev pub invariant-loop-class : goal.invariant-loop-class
invariant-loop-class g l = l.shapes ≡ all_wait_on l.upto l.class l.arrivals l.fn.shapes
