use Rattle.delay_bounds.specs.Walked.{last_offset}
use Rattle.delay_bounds.proofs.WalkedLaws.{goes_more, last_all}
use Rattle.delay_bounds.proofs.look.last_offset.Goals as goal

pub loop-flow-preserved : goal.loop-flow-preserved
loop-flow-preserved c = goes_more c.args.flows.now c.loop-flow.flow-index c.loop-flow.last c.max-last.result (last_offset c.args.flows.now) c.loop-flow-test.true c.loop-flow.invariant c.max-last.ensures

pub returns : goal.returns
returns c = last_all c.args.flows.now c.loop-flow.flow-index c.loop-flow.last c.loop-flow-test.false c.loop-flow.invariant
