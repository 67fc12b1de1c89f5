use Rattle.capture.proofs.CaptureLaws.{answers_law}
use Rattle.capture.proofs.laws.answers_law.Goals as goal

pub returns : goal.returns
returns g c = answers_law g.R.Read.remaining _
