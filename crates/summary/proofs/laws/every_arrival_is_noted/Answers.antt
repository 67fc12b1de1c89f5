use Rattle.summary.proofs.PaceLaws.{keeping_pace}
use Rattle.summary.proofs.laws.every_arrival_is_noted.Goals as goal

pub returns : goal.returns
returns c = keeping_pace
