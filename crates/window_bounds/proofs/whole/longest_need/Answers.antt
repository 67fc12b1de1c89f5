use Rattle.window_bounds.specs.Flows.{longest_need}
use Rattle.window_bounds.proofs.FlowLaws.{need_all, need_more}
use Rattle.window_bounds.proofs.whole.longest_need.Goals as goal

pub loop-flow-preserved : goal.loop-flow-preserved
loop-flow-preserved c = need_more c.args.flows.now c.loop-flow.flow-index c.loop-flow.need c.max-need.result
    (longest_need c.args.flows.now) c.loop-flow-test.true c.loop-flow.invariant c.max-need.ensures

pub returns : goal.returns
returns c = need_all c.args.flows.now c.loop-flow.flow-index c.loop-flow.need (longest_need c.args.flows.now)
    c.loop-flow-test.false c.loop-flow.invariant
