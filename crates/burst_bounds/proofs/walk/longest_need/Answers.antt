use Rattle.burst_bounds.specs.Talkers.{longest_need}
use Rattle.burst_bounds.proofs.TalkerLaws.{need_all, need_more}
use Rattle.burst_bounds.proofs.walk.longest_need.Goals as goal

pub loop-talker-preserved : goal.loop-talker-preserved
loop-talker-preserved c = need_more c.args.talkers.now c.loop-talker.talker-index c.loop-talker.need c.max-need.result
    (longest_need c.args.talkers.now) c.loop-talker-test.true c.loop-talker.invariant c.max-need.ensures

pub returns : goal.returns
returns c = need_all c.args.talkers.now c.loop-talker.talker-index c.loop-talker.need (longest_need c.args.talkers.now)
    c.loop-talker-test.false c.loop-talker.invariant
