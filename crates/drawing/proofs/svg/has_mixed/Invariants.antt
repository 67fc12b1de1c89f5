use Rattle.std.proofs.Common.{◌≡◌, ◌-◌}
use Rattle.drawing.specs.Picture.{has_mixed, some_mixed}
use Rattle.drawing.proofs.svg.has_mixed.Given as goal

abbrev pub invariant-loop-class : goal.invariant-loop-class
invariant-loop-class g l = has_mixed l.page l.bands ≡ some_mixed l.page l.bands l.class (8 - l.class)
