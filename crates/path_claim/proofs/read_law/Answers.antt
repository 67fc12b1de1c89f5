use Rattle.path_claim.proofs.SmallLaws.{sent_law, small_law}
use Rattle.path_claim.proofs.read_law.Goals as goal

pub returns-clause-sent : goal.returns-clause-sent
returns-clause-sent c = sent_law

pub returns-clause-small : goal.returns-clause-small
returns-clause-small c = small_law
