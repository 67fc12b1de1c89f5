use Rattle.std.proofs.Common.{◌≡◌, ◌++◌, ◌+◌, ◌-◌, All}
use Rattle.path_bounds.specs.Answers.{standings_from}
use Rattle.stream_bounds.specs.Standing.{IsCounted}
use Rattle.path_bounds.proofs.standings.standings_above.Given as goal

-- those so far, and those to come
abbrev pub invariant-loop-class : goal.invariant-loop-class
invariant-loop-class l = record {
  so_far : l.above.items ++ standings_from l.pair.port.now l.pair.number l.pair.hops.now l.pair.verdicts.now l.pair.shares.now
      (8 - l.class) l.class
      ≡ standings_from l.pair.port.now l.pair.number l.pair.hops.now l.pair.verdicts.now l.pair.shares.now (7 - l.pair.class) (l.pair.class + 1);
  counted : All IsCounted l.above.items;
}
