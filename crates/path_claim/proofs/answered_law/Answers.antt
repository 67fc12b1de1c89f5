use Rattle.path_claim.proofs.AnsweredLaws as AnsweredLaws
use Rattle.path_claim.proofs.answered_law.Goals as goal

pub returns : goal.returns
returns c = AnsweredLaws.answered_law
