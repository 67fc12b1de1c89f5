use Rattle.burst_bounds.proofs.CoverLaws.{moments_law}
use Rattle.burst_bounds.proofs.laws.moments.Goals as goal

pub returns : goal.returns
returns c = moments_law
