use Rattle.any_traffic.proofs.OwnStarts as OwnStarts
use Rattle.any_traffic.proofs.starts.Goals as goal

pub returns-clause-own : goal.returns-clause-own
returns-clause-own c = OwnStarts.own_starts_law

pub returns-clause-least : goal.returns-clause-least
returns-clause-least c = OwnStarts.least_start_law

pub returns-clause-apart : goal.returns-clause-apart
returns-clause-apart c = OwnStarts.apart_run_law
