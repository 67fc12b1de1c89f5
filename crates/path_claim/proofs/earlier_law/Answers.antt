use Rattle.path_claim.proofs.EarlierLaws as EarlierLaws
use Rattle.path_claim.proofs.earlier_law.Goals as goal

pub returns : goal.returns
returns c = EarlierLaws.earlier_law
