use Rattle.frame_table.proofs.ToldLaws.{is_told}
use Rattle.frame_table.proofs.laws.told.Goals as goal

pub returns : goal.returns
returns c = is_told
