use Rattle.burst_bounds.proofs.CommonLaws.{IsCommonTo}
use Rattle.burst_bounds.proofs.repeats.common_time.Given as goal

abbrev pub invariant-loop-talker : goal.invariant-loop-talker
invariant-loop-talker l = IsCommonTo l.talkers l.talker-index l.cycle l.time
