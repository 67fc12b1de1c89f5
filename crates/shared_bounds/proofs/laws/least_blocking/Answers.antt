use Rattle.shared_bounds.proofs.RunLaws.{blocking_law}
use Rattle.shared_bounds.proofs.laws.least_blocking.Goals as goal

pub returns : goal.returns
returns c = blocking_law
