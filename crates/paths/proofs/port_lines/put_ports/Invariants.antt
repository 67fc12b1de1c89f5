use Rattle.std.proofs.Common.{drop}
use Rattle.text.specs.Writes.{Sent}
use Rattle.paths.specs.PortLines.{ports_lines}
use Rattle.paths.proofs.port_lines.put_ports.Given as goal

-- what is written and what is to come
abbrev pub invariant-loop-number : goal.invariant-loop-number
invariant-loop-number g l = Sent (g.W.Write.contents l.fn.writer) (g.W.Write.contents l.writer) (ports_lines l.known l.names l.ports l.order) (ports_lines l.known l.names l.ports (drop l.number-index l.order))
