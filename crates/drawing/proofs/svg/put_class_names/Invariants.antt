use Rattle.std.proofs.Common.{◌-◌}
use Rattle.text.specs.Writes.{Sent}
use Rattle.drawing.specs.Axis.{each}
use Rattle.drawing.specs.Picture.{class_name}
use Rattle.drawing.proofs.svg.put_class_names.Given as goal

abbrev pub invariant-loop-class : goal.invariant-loop-class
invariant-loop-class g l = Sent (g.W.Write.contents l.fn.writer) (g.W.Write.contents l.writer) (each (class_name) 0 8) (each (class_name) l.class (8 - l.class))
