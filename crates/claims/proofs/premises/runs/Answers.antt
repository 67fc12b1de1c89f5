use Rattle.std.proofs.Common.{arith}
use Rattle.claims.proofs.premises.runs.Goals as goal

pub returns-clause-lead : goal.returns-clause-lead
returns-clause-lead g c f sdu here fits =
    let least = c.now.ensures.sound.mtu in
    c.lead_law.ensures _ _ f sdu (omega arith) here fits
