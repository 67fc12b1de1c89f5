use Rattle.delay_bounds.proofs.FullLaws as FullLaws
use Rattle.delay_bounds.proofs.laws.full.Goals as goal

pub returns : goal.returns
returns c = FullLaws.full_law
