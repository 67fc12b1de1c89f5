use Rattle.std.proofs.Common.{length, ap, sym, arith, le_refl}
use Rattle.drawing.proofs.CountLaws.{next_lane, no_lanes}
use Rattle.drawing.proofs.shapes.count_in.Goals as goal

pub loop-lane-init : goal.loop-lane-init
loop-lane-init g c = record { value = sym (no_lanes c.args.lanes.now); within = le_refl 0 }

pub loop-lane-preserved : goal.loop-lane-preserved
loop-lane-preserved g c =
    let i = c.loop-lane.invariant in
    let more = next_lane c.loop-lane.lane c.args.lanes.now in
    let here = ap length c.shapes_in.ensures.value in
    let few = c.shapes_in.ensures.few in
    record { value = omega (arith, i.value, more, here); within = omega (arith, i.within, few) }
