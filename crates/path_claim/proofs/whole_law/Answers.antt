use Rattle.path_claim.proofs.WholeLaws as WholeLaws
use Rattle.path_claim.proofs.whole_law.Goals as goal

pub returns : goal.returns
returns c = WholeLaws.whole_law
