use Rattle.path_claim.proofs.ToldLaws as ToldLaws
use Rattle.path_claim.proofs.told_law.Goals as goal

pub returns : goal.returns
returns c = ToldLaws.told_law
