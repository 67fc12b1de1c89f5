use Rattle.schedule_check.proofs.OpenLineLaws.{open_ever, ever_is}
use Rattle.schedule_check.proofs.laws.ever_open.Goals as goal

pub returns : goal.returns
returns c = λ plan class above. ((λ found. open_ever plan class found.0 above found.1), ever_is plan class)
