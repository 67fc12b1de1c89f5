use Rattle.std.proofs.Common.{arith}
use Rattle.std.proofs.lemmas.Result.{err_from_is_err_and}
use Rattle.text.proofs.Fronts.{sent_all, sent_exit, sent_more, sent_none}
use Rattle.drawing.specs.Picture.{lane_text}
use Rattle.drawing.proofs.TextLaws.{each_more, each_none}
use Rattle.drawing.proofs.svg.put_lanes.Goals as goal

pub returns-in_err-put_lane : goal.returns-in_err-put_lane
returns-in_err-put_lane g c =
    let p = err_from_is_err_and c.from_residual.result c.from_residual.ensures.1 in
    sent_exit _ _ _ p.1 c.loop-lane.invariant (each_more (lane_text c.args.page.now c.args.shapes.now) c.loop-lane.lane 9 c.loop-lane-test.true) c.in_err-put_lane.ensures

pub loop-lane-preserved : goal.loop-lane-preserved
loop-lane-preserved g c = sent_more _ _ _ c.loop-lane.invariant (each_more (lane_text c.args.page.now c.args.shapes.now) c.loop-lane.lane 9 c.loop-lane-test.true) c.in_ok-put_lane.ensures

pub loop-lane-init : goal.loop-lane-init
loop-lane-init g c = sent_none _ _

pub returns : goal.returns
returns g c = sent_all c.loop-lane.invariant (each_none (lane_text c.args.page.now c.args.shapes.now) c.loop-lane.lane 9 (omega (arith, c.loop-lane-test.false)))
