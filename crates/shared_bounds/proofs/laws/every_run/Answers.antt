use Rattle.shared_bounds.proofs.RunLaws.{least_law}
use Rattle.shared_bounds.proofs.laws.every_run.Goals as goal

pub returns : goal.returns
returns c = least_law
