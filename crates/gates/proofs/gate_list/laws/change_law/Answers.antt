use Rattle.gates.proofs.PhaseLaws.{change_is}
use Rattle.gates.proofs.gate_list.laws.change_law.Goals as goal

pub returns : goal.returns
returns c = change_is
