use Rattle.drawing.proofs.AxisLaws.{two_ticks}
use Rattle.drawing.proofs.laws.axis_law.Goals as goal

pub returns : goal.returns
returns c = two_ticks
