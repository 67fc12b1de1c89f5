use Rattle.picture.proofs.JoinLaws.{lane_of}
use Rattle.picture.proofs.laws.lane_law.Goals as goal

pub returns : goal.returns
returns c = lane_of
