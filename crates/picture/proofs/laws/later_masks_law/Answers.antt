use Rattle.picture.proofs.LongestLaws.{bands_kept}
use Rattle.picture.proofs.laws.later_masks_law.Goals as goal

pub returns : goal.returns
returns c = λ old new class start m g same are. bands_kept old new class start m same g are
