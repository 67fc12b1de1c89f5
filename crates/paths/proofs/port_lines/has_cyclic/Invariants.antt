use Rattle.std.proofs.Common.{◌≡◌, ◌-◌}
use Rattle.paths.specs.PortLines.{has_cyclic}
use Rattle.paths.proofs.port_lines.has_cyclic.Given as goal

abbrev pub invariant-loop-pair : goal.invariant-loop-pair
invariant-loop-pair l = has_cyclic l.known (l.count - l.pair) l.pair ≡ has_cyclic l.known l.count 0
