use Rattle.schedule_check.proofs.TellLaws.{a_teller, same_tellers}
use Rattle.schedule_check.proofs.laws.one_teller.Goals as goal

pub returns-clause-some : goal.returns-clause-some
returns-clause-some c = a_teller

pub returns-clause-one : goal.returns-clause-one
returns-clause-one c = same_tellers
