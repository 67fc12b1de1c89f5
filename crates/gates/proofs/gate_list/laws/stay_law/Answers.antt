use Rattle.gates.proofs.StayLaws.{plan_law}
use Rattle.gates.proofs.gate_list.laws.stay_law.Goals as goal

pub returns : goal.returns
returns c = plan_law
