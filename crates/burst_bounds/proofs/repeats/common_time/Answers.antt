use Rattle.burst_bounds.proofs.CommonLaws.{common_all, common_more, common_none}
use Rattle.burst_bounds.proofs.repeats.common_time.Goals as goal

pub loop-talker-init : goal.loop-talker-init
loop-talker-init c = common_none c.args.talkers.now c.args.cycle c.requires.cycle.0 c.requires.cycle.1

pub loop-talker-preserved : goal.loop-talker-preserved
loop-talker-preserved c = common_more c.args.talkers.now c.loop-talker.talker-index c.args.cycle c.loop-talker.time c.in_ok-time.time
    c.loop-talker.invariant c.in_ok-time.ensures

pub returns : goal.returns
returns c = common_all c.args.talkers.now c.loop-talker.talker-index c.args.cycle c.loop-talker.time c.loop-talker-test.false
    c.loop-talker.invariant
