use Rattle.claims.proofs.RunsExist.{runs_exist}
use Rattle.claims.proofs.premises.laws.runs_exist.Goals as goal

pub returns : goal.returns
returns c = runs_exist
