use Rattle.path_bounds.specs.Hops.{entry_of, is_own}
use Rattle.path_bounds.proofs.PickLaws.{picked_all}
use Rattle.path_bounds.proofs.tables.own_of.Goals as goal

pub returns-clause-own : goal.returns-clause-own
returns-clause-own c =
    picked_all entry_of (is_own c.args.port c.args.class) c.args.hops.now c.loop-hop.hop-index _ _ c.loop-hop-test.false
    c.loop-hop.invariant.so_far
