use Rattle.abstract_port.proofs.ServiceLaws as Serving
use Rattle.abstract_port.proofs.separation.served.Goals as goal

pub returns : goal.returns
returns c = Serving.served_law
