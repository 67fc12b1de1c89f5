use Rattle.std.proofs.Common.{◌≡◌, ◌++◌, All, filter, map, drop}
use Rattle.path_bounds.specs.Answers.{own_of}
use Rattle.path_bounds.specs.Hops.{entry_of, is_own}
use Rattle.stream_bounds.specs.Classes.{IsPeriodic}
use Rattle.path_bounds.proofs.tables.own_of.Given as goal

-- those so far, and those to come
abbrev pub invariant-loop-hop : goal.invariant-loop-hop
invariant-loop-hop l = record {
  so_far : l.own.items ++ map entry_of (filter (is_own l.port l.class) (drop l.hop-index l.hops)) ≡ own_of l.port l.class l.hops;
  periodic : All IsPeriodic l.own.items;
}
