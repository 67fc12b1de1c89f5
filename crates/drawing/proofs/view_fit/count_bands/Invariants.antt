use Rattle.std.proofs.Common.{◌≡◌, ◌≤◌, ◌*◌}
use Rattle.drawing.specs.Words.{MOST_SHAPES, bands_to}
use Rattle.drawing.proofs.view_fit.count_bands.Given as goal

abbrev pub invariant-loop-class : goal.invariant-loop-class
invariant-loop-class g l = record {
  value : l.count ≡ bands_to l.class l.bands.classes l.bands.mixed;
  within : l.count ≤ 2 * (l.class * MOST_SHAPES);
}
