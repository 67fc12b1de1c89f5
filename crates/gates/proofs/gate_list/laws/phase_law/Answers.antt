use Rattle.gates.proofs.PhaseLaws.{phase_is}
use Rattle.gates.proofs.gate_list.laws.phase_law.Goals as goal

pub returns : goal.returns
returns c = phase_is
