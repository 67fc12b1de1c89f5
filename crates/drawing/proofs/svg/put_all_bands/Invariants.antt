use Rattle.std.proofs.Common.{◌-◌}
use Rattle.text.specs.Writes.{Sent}
use Rattle.drawing.specs.Axis.{each}
use Rattle.drawing.specs.Picture.{class_bands}
use Rattle.drawing.proofs.svg.put_all_bands.Given as goal

abbrev pub invariant-loop-class : goal.invariant-loop-class
invariant-loop-class g l = Sent (g.W.Write.contents l.fn.writer) (g.W.Write.contents l.writer) (each (class_bands l.page l.bands) 0 8) (each (class_bands l.page l.bands) l.class (8 - l.class))
