use Rattle.gates.proofs.TableLaws.{copied_stays, copied_within}
use Rattle.gates.proofs.gate_list.table.copy_table.Goals as goal

pub returns-clause-stays : goal.returns-clause-stays
returns-clause-stays c = copied_stays c.args.from.now c.copy_starts.new.starts c.copy_places.new.rows c.requires c.copy_starts.ensures c.copy_places.ensures

pub returns-clause-within : goal.returns-clause-within
returns-clause-within c = copied_within c.args.from.now c.copy_starts.new.starts c.copy_places.new.rows c.requires c.copy_starts.ensures c.copy_places.ensures
