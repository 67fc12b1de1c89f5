use Rattle.wire_time.proofs.WireLaws.{occupancy_within}
use Rattle.wire_time.proofs.lead_law.Goals as goal

pub returns : goal.returns
returns c = occupancy_within
