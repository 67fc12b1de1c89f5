use Rattle.std.proofs.Common.{◌≡◌}
use Rattle.paths.proofs.ports.as_made.Goals as goal

pub returns-in-Err-clause-fault : goal.returns-in-Err-clause-fault
returns-in-Err-clause-fault c = c.in-Err.is
