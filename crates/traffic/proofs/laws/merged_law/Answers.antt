use Rattle.traffic.proofs.MergedLaws.{merged_law}
use Rattle.traffic.proofs.laws.merged_law.Goals as goal

pub returns : goal.returns
returns c = merged_law
