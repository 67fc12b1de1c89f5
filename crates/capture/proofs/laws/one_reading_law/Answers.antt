use Rattle.capture.proofs.CaptureLaws.{one_reading_law}
use Rattle.capture.proofs.laws.one_reading_law.Goals as goal

pub returns : goal.returns
returns c = one_reading_law
