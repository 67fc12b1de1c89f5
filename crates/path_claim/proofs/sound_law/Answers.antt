use Rattle.path_claim.proofs.SoundLaws as SoundLaws
use Rattle.path_claim.proofs.sound_law.Goals as goal

pub returns : goal.returns
returns c = SoundLaws.sound_law
