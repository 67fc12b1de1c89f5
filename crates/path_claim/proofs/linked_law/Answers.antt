use Rattle.path_claim.proofs.LinkedLaws as LinkedLaws
use Rattle.path_claim.proofs.linked_law.Goals as goal

pub returns : goal.returns
returns c = LinkedLaws.linked_law
