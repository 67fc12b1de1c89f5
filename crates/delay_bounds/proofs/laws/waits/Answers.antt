use Rattle.delay_bounds.proofs.WaitLaws as WaitLaws
use Rattle.delay_bounds.proofs.laws.waits.Goals as goal

pub returns : goal.returns
returns c = WaitLaws.bounds_law
