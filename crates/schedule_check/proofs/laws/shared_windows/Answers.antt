use Rattle.schedule_check.proofs.SharingLaws.{share_is, is_share}
use Rattle.schedule_check.proofs.laws.shared_windows.Goals as goal

pub returns : goal.returns
returns c = λ plan class other above. (share_is plan class other, is_share plan class other above)
