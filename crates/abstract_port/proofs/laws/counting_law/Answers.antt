use Rattle.abstract_port.proofs.TallyLaws.{counting}
use Rattle.abstract_port.proofs.UnclassedLaws.{unclassing}
use Rattle.abstract_port.proofs.RunTurns.{telling}
use Rattle.abstract_port.proofs.laws.counting_law.Goals as goal

pub returns : goal.returns
returns c = record { counting = counting; unclassed = unclassing; told = telling }
