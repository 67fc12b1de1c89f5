use Rattle.compare.proofs.KeyLaws.{tells_apart}
use Rattle.compare.proofs.laws.payload_law.Goals as goal

pub returns : goal.returns
returns c = tells_apart
