use Rattle.std.proofs.Common.{◌-◌}
use Rattle.text.specs.Writes.{Sent}
use Rattle.paths.specs.PortLines.{cyclic_names}
use Rattle.paths.proofs.port_lines.put_names.Given as goal

-- what is written and what is to come
abbrev pub invariant-loop-pair : goal.invariant-loop-pair
invariant-loop-pair g l = Sent (g.W.Write.contents l.fn.writer) (g.W.Write.contents l.writer) (cyclic_names l.known l.names l.count 0) (cyclic_names l.known l.names (l.count - l.pair) l.pair)
