use Rattle.path_claim.proofs.FoundLaws as FoundLaws
use Rattle.path_claim.proofs.found_claim.Goals as goal

pub returns : goal.returns
returns c = FoundLaws.found_claim c.claims.ensures.network
