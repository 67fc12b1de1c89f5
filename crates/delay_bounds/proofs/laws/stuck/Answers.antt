use Rattle.delay_bounds.proofs.StuckLaws as StuckLaws
use Rattle.delay_bounds.proofs.laws.stuck.Goals as goal

pub returns : goal.returns
returns c = StuckLaws.stuck_law
