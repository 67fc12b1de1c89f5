use Rattle.port_text.proofs.ReadLaws.{a_reader, same_readers}
use Rattle.port_text.proofs.tc_reader.laws.one_reader.Goals as goal

pub returns-clause-some : goal.returns-clause-some
returns-clause-some c = a_reader

pub returns-clause-one : goal.returns-clause-one
returns-clause-one c = same_readers
