use Rattle.capture.proofs.LayoutLaws.{spelling_law}
use Rattle.capture.proofs.laws.spelling_law.Goals as goal

pub returns : goal.returns
returns c = spelling_law
