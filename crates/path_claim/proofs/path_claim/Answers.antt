use Rattle.path_claim.proofs.PathLaws as PathLaws
use Rattle.path_claim.proofs.path_claim.Goals as goal

pub returns : goal.returns
returns c = PathLaws.path_claim c.claims.ensures.network
