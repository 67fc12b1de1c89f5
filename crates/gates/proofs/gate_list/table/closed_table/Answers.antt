use Rattle.gates.proofs.TableLaws.{closed_stays, closed_within}
use Rattle.gates.proofs.gate_list.table.closed_table.Goals as goal

pub returns-clause-stays : goal.returns-clause-stays
returns-clause-stays c = closed_stays

pub returns-clause-within : goal.returns-clause-within
returns-clause-within c = closed_within
