use Rattle.picture.proofs.BunchLaws.{long_kept}
use Rattle.picture.proofs.laws.bunch_law.Goals as goal

pub returns : goal.returns
returns c = long_kept
