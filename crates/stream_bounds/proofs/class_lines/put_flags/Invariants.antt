use Rattle.std.proofs.Common.{◌-◌}
use Rattle.text.specs.Writes.{Sent}
use Rattle.stream_bounds.specs.BoundLines.{flag_texts}
use Rattle.stream_bounds.proofs.class_lines.put_flags.Given as goal

-- what is written and what is to come
abbrev pub invariant-loop-class : goal.invariant-loop-class
invariant-loop-class g l = Sent (g.W.Write.contents l.fn.writer) (g.W.Write.contents l.writer) (flag_texts l.flags 8 0) (flag_texts l.flags (8 - l.class) l.class)
