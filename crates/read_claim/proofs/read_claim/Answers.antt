use Rattle.read_claim.proofs.MadeLaws as MadeLaws
use Rattle.read_claim.proofs.RunLaws as RunLaws
use Rattle.read_claim.specs.ReadClaim.{ReadClaim}
use Rattle.read_claim.proofs.read_claim.Goals as goal

claim : (c : goal.After-found_claim) → ReadClaim c.args.settings.now
claim c = MadeLaws.read_claim c.found_claim.ensures c.args.settings.now c.made_law.ensures.read c.made_law.ensures.ways

pub returns-clause-each : goal.returns-clause-each
returns-clause-each c = claim c

pub returns-clause-runs : goal.returns-clause-runs
returns-clause-runs c = RunLaws.run_claim c.args.settings.now (claim c)
