use Rattle.path_claim.proofs.EndLaws as EndLaws
use Rattle.path_claim.proofs.sooner_law.Goals as goal

pub returns : goal.returns
returns c = EndLaws.sooner_law
