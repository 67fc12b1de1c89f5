use Rattle.abstract_port.proofs.Settles as Settles
use Rattle.abstract_port.proofs.separation.settling.Goals as goal

pub returns : goal.returns
returns c = Settles.settling
