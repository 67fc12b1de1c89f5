use Rattle.std.proofs.Common.{rules}
use Rattle.burst_bounds.specs.Talkers.{longest_need}
use Rattle.burst_bounds.proofs.TalkerLaws.{need_all, need_more}
use Rattle.stream_bounds.proofs.shared.longest_need.Goals as goal

pub loop-talker-preserved : goal.loop-talker-preserved
loop-talker-preserved c = record {
  longest = need_more c.args.talkers.now c.loop-talker.talker-index c.loop-talker.need c.max-need.result
      (longest_need c.args.talkers.now) c.loop-talker-test.true c.loop-talker.invariant.longest c.max-need.ensures;
  short = search rules;
}

pub returns-clause-need : goal.returns-clause-need
returns-clause-need c = need_all c.args.talkers.now c.loop-talker.talker-index c.loop-talker.need (longest_need c.args.talkers.now)
    c.loop-talker-test.false c.loop-talker.invariant.longest
