use Rattle.std.proofs.Common.{◌-◌}
use Rattle.text.specs.Writes.{Sent}
use Rattle.stream_bounds.specs.BoundLines.{class_lines}
use Rattle.stream_bounds.proofs.class_lines.put_classes.Given as goal

-- what is written and what is to come
abbrev pub invariant-loop-class : goal.invariant-loop-class
invariant-loop-class g l = Sent (g.W.Write.contents l.fn.writer) (g.W.Write.contents l.writer) (class_lines l.room l.answers 8 0) (class_lines l.room l.answers (8 - l.class) l.class)
