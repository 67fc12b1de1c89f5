use Rattle.abstract_port.proofs.RunTurns.{wires}
use Rattle.abstract_port.proofs.laws.wire_law.Goals as goal

pub returns : goal.returns
returns c = wires
