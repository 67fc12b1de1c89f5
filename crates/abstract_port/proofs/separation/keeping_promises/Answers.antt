use Rattle.abstract_port.proofs.SeparateRunLaws.{keeping}
use Rattle.abstract_port.proofs.separation.keeping_promises.Goals as goal

pub returns : goal.returns
returns c = keeping
