use Rattle.path_claim.proofs.BuiltLaws as BuiltLaws
use Rattle.path_claim.proofs.built_law.Goals as goal

pub returns : goal.returns
returns c = BuiltLaws.built_law
