use Rattle.burst_bounds.proofs.RateLaws.{overload_law}
use Rattle.burst_bounds.proofs.laws.overload.Goals as goal

pub returns : goal.returns
returns c = overload_law
