use Rattle.delay_bounds.proofs.ClaimLaws as ClaimLaws
use Rattle.delay_bounds.proofs.laws.answers.Goals as goal

pub returns : goal.returns
returns c = ClaimLaws.answer_law
