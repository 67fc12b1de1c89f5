use Rattle.claims.proofs.SharedClaimLaws as ClaimLaws
use Rattle.claims.proofs.SharedExample as Example
use Rattle.claims.proofs.OtherLaws as OtherLaws
use Rattle.claims.proofs.RunLaws as RunLaws
use Rattle.claims.proofs.shared_claim.claims.Goals as goal

pub returns-clause-shared : goal.returns-clause-shared
returns-clause-shared c = ClaimLaws.shared

pub returns-clause-runs : goal.returns-clause-runs
returns-clause-runs c = RunLaws.runs

pub returns-clause-met : goal.returns-clause-met
returns-clause-met c = Example.met

pub returns-clause-others : goal.returns-clause-others
returns-clause-others c = OtherLaws.others_law

pub returns-clause-mtu : goal.returns-clause-mtu
returns-clause-mtu c = OtherLaws.mtu_law

pub returns-clause-limits : goal.returns-clause-limits
returns-clause-limits c = OtherLaws.limit_law

pub returns-clause-unled : goal.returns-clause-unled
returns-clause-unled c = OtherLaws.unled_law
