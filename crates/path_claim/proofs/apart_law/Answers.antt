use Rattle.path_claim.proofs.ApartLaws as ApartLaws
use Rattle.path_claim.proofs.apart_law.Goals as goal

pub returns : goal.returns
returns c = ApartLaws.apart_law
