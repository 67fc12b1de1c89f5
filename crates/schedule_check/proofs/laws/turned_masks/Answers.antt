use Rattle.schedule_check.proofs.TurnLaws.{turned_opens}
use Rattle.schedule_check.proofs.laws.turned_masks.Goals as goal

pub returns : goal.returns
returns c = turned_opens
