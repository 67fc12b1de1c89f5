use Rattle.gates.proofs.HistoryLaws.{push_gates}
use Rattle.gates.proofs.list_config.laws.hindsight_law.Goals as goal

pub returns : goal.returns
returns c = λ h x n ahead timely. push_gates x n ahead timely h
