use Rattle.path_bounds.specs.Hops.{entry_of, is_at}
use Rattle.path_bounds.proofs.PickLaws.{picked_all}
use Rattle.path_bounds.proofs.tables.table_of.Goals as goal

pub returns-clause-table : goal.returns-clause-table
returns-clause-table c =
    picked_all entry_of (is_at c.args.port) c.args.hops.now c.loop-hop.hop-index _ _ c.loop-hop-test.false c.loop-hop.invariant.so_far
