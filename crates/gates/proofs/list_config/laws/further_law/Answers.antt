use Rattle.gates.proofs.HistoryLaws.{further_open_through}
use Rattle.gates.proofs.list_config.laws.further_law.Goals as goal

pub returns : goal.returns
returns c = further_open_through
