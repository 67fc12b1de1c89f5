use Rattle.delay_bounds.proofs.WalkLaws as WalkLaws
use Rattle.delay_bounds.proofs.laws.for_ever.Goals as goal

pub returns : goal.returns
returns c = WalkLaws.for_ever
