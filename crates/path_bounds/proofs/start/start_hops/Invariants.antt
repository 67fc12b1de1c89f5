use Rattle.std.proofs.Common.{◌≡◌, ◌++◌, All, drop, false}
use Rattle.path_bounds.specs.Hops.{IsHop}
use Rattle.path_bounds.specs.Start.{start_hops}
use Rattle.path_bounds.proofs.start.start_hops.Given as goal

-- those so far, and those to come
abbrev pub invariant-loop-way : goal.invariant-loop-way
invariant-loop-way l = record {
  so_far : l.hops.items ++ start_hops l.ports l.never (drop l.way-index l.ways) ≡ start_hops l.ports false l.ways;
  all : All IsHop l.hops.items;
}
