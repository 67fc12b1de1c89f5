use Rattle.path_claim.proofs.EndLaws as EndLaws
use Rattle.path_claim.proofs.end_law.Goals as goal

pub returns : goal.returns
returns c = EndLaws.end_law
