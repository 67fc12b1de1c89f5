use Rattle.std.proofs.Common.{arith}
use Rattle.picture.proofs.LaneLaws.{lane_at}
use Rattle.picture.proofs.lane.Lane.join.Goals as goal

pub invariant_of-self : goal.invariant_of-self
invariant_of-self g c =
    (rw c.join_all.ensures.items (lane_at c.args.gap c.self.inside.shapes.items c.self.invariant.0), omega (arith, c.self.invariant.1, c.join_all.ensures.capacity))
