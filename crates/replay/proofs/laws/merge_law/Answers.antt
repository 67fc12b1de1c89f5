use Rattle.replay.proofs.MergeLaws.{merge_law}
use Rattle.replay.proofs.laws.merge_law.Goals as goal

pub returns : goal.returns
returns c = merge_law
