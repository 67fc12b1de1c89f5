use Rattle.claims.proofs.LateClaimLaws as ClaimLaws
use Rattle.claims.proofs.late_claim.claims.Goals as goal

pub returns-clause-windows : goal.returns-clause-windows
returns-clause-windows c = ClaimLaws.windows

pub returns-clause-any_moments : goal.returns-clause-any_moments
returns-clause-any_moments c = ClaimLaws.any_moments

pub returns-clause-runs : goal.returns-clause-runs
returns-clause-runs c = ClaimLaws.runs
