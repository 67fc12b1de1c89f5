use Rattle.std.proofs.Common.{◌≡◌, ◌++◌, All, filter, map, drop}
use Rattle.path_bounds.specs.Answers.{table_of}
use Rattle.path_bounds.specs.Hops.{entry_of, is_at}
use Rattle.stream_bounds.specs.Classes.{IsPeriodic}
use Rattle.path_bounds.proofs.tables.table_of.Given as goal

-- those so far, and those to come
abbrev pub invariant-loop-hop : goal.invariant-loop-hop
invariant-loop-hop l = record {
  so_far : l.table.items ++ map entry_of (filter (is_at l.port) (drop l.hop-index l.hops)) ≡ table_of l.port l.hops;
  periodic : All IsPeriodic l.table.items;
}
