use Rattle.std.proofs.Common.{◌≡◌, ◌*◌, length}
use Rattle.path_bounds.specs.Judged.{AreSteps, open_count, unjudged}
use Rattle.path_bounds.proofs.judge.judge_all.Given as goal

-- some have been judged
abbrev pub invariant-loop-now : goal.invariant-loop-now
invariant-loop-now l = record {
  steps : AreSteps l.ports l.clocks l.known.order (unjudged l.ports l.fn.hops.items) l.known;
  long : length l.known.verdicts ≡ 8 * length l.ports;
}

-- each time one more
abbrev pub decreases-loop-now : goal.decreases-loop-now
decreases-loop-now l = open_count l.known.verdicts
