use Rattle.std.proofs.Common.{◌≡◌, ◌≤◌, ◌++◌, All, drop}
use Rattle.path_bounds.specs.Hops.{IsHop, passed_on}
use Rattle.path_bounds.specs.declared.pass.Leaving.TheVariants as Leavings
use Rattle.path_bounds.proofs.pass.passed_on.Given as goal

-- those so far, and those to come
abbrev pub invariant-loop-hop : goal.invariant-loop-hop
invariant-loop-hop l = record {
  so_far : l.passed.items ++ passed_on l.passing.ports.now l.passing.from.now l.passing.clocks l.passing.port l.passing.class l.answer.left
      l.place l.leaving (drop l.hop-index l.hops)
      ≡ passed_on l.passing.ports.now l.passing.from.now l.passing.clocks l.passing.port l.passing.class l.answer.left 0 Leavings.Other l.hops;
  all : All IsHop l.passed.items;
  few : l.place ≤ l.hop-index;
}
