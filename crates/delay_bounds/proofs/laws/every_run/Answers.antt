use Rattle.delay_bounds.proofs.EveryRunLaws as EveryRunLaws
use Rattle.delay_bounds.proofs.laws.every_run.Goals as goal

pub returns : goal.returns
returns c = EveryRunLaws.every_run_law
