use Rattle.network.proofs.ViaLaws.{via_law}
use Rattle.network.proofs.network_table.laws.via_law.Goals as goal

pub returns : goal.returns
returns c = via_law
