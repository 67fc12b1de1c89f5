use Rattle.abstract_port.proofs.RunTurns.{turns}
use Rattle.abstract_port.proofs.laws.turn_law.Goals as goal

pub returns : goal.returns
returns c = turns
