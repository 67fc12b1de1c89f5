use Rattle.delay_bounds.proofs.OverloadLaws as OverloadLaws
use Rattle.delay_bounds.proofs.laws.overload.Goals as goal

pub returns : goal.returns
returns c = OverloadLaws.overload_law
