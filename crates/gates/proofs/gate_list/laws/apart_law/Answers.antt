use Rattle.gates.proofs.ApartLaws.{apart_is}
use Rattle.gates.proofs.gate_list.laws.apart_law.Goals as goal

pub returns : goal.returns
returns c = apart_is
