use Rattle.delay_bounds.proofs.NeverLaws as NeverLaws
use Rattle.delay_bounds.proofs.laws.never.Goals as goal

pub returns : goal.returns
returns c = NeverLaws.never_law
