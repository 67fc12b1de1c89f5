use Rattle.claims.proofs.ReachedLaws.{greatest_reached_law, windows_reached_law}
use Rattle.claims.proofs.ReachedRuns.{greatest_runs_exist}
use Rattle.claims.proofs.late_claim.reached.Goals as goal

pub returns-clause-always : goal.returns-clause-always
returns-clause-always c = windows_reached_law

pub returns-clause-greatest : goal.returns-clause-greatest
returns-clause-greatest c = greatest_reached_law

pub returns-clause-runs : goal.returns-clause-runs
returns-clause-runs c = greatest_runs_exist
