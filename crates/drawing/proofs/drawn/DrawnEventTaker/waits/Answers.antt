use Rattle.drawing.specs.Walk.{draws_none}
use Rattle.drawing.proofs.drawn.DrawnEventTaker.waits.Goals as goal

pub returns : goal.returns
returns g c = λ h. draws_none c.args.self.now
