use Rattle.traffic.specs.declared.table.Stream.{Stream}
use Rattle.stream_bounds.proofs.PickLaws.{map_all}
use Rattle.stream_bounds.proofs.classes.ids_of.Goals as goal

pub returns-clause-ids : goal.returns-clause-ids
returns-clause-ids g c = map_all (λ (x : Stream). x.first_id) c.args.streams.now c.loop-stream.stream-index _ _ c.loop-stream-test.false c.loop-stream.invariant.found
