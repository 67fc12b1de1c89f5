use Rattle.path_claim.proofs.EarliestLaws as EarliestLaws
use Rattle.path_claim.proofs.earliest_law.Goals as goal

pub returns : goal.returns
returns c = EarliestLaws.earliest_law
