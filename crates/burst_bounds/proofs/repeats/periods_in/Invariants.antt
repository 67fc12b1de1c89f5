use Rattle.std.proofs.Common.{◌≡◌, ◌+◌, drop}
use Rattle.burst_bounds.specs.Unbound.{periods_in}
use Rattle.burst_bounds.proofs.repeats.periods_in.Given as goal

abbrev pub invariant-loop-talker : goal.invariant-loop-talker
invariant-loop-talker l = l.left + periods_in l.time l.talkers ≡ l.limit + periods_in l.time (drop l.talker-index l.talkers)
