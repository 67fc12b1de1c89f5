use Rattle.claims.proofs.RunsExist.{none_deleted}
use Rattle.claims.proofs.premises.laws.none_deletes.Goals as goal

pub returns : goal.returns
returns c = none_deleted
