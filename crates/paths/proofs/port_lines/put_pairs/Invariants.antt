use Rattle.std.proofs.Common.{◌-◌}
use Rattle.text.specs.Writes.{Sent}
use Rattle.paths.specs.PortLines.{pair_lines}
use Rattle.paths.proofs.port_lines.put_pairs.Given as goal

-- what is written and what is to come
abbrev pub invariant-loop-class : goal.invariant-loop-class
invariant-loop-class g l = Sent (g.W.Write.contents l.fn.writer) (g.W.Write.contents l.writer) (pair_lines l.known l.room l.port 8 0) (pair_lines l.known l.room l.port (8 - l.class) l.class)
