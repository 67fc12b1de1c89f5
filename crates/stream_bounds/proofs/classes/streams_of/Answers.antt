use Rattle.stream_bounds.specs.Classes.{class_of, is_class}
use Rattle.stream_bounds.proofs.PickLaws.{kept_all}
use Rattle.traffic.specs.declared.table.Stream.{Stream}
use Rattle.stream_bounds.proofs.classes.streams_of.Goals as goal

pub returns-clause-streams : goal.returns-clause-streams
returns-clause-streams g c = kept_all (λ (x : Stream). is_class c.args.class (class_of c.args.settings.now c.args.change.now x)) c.args.streams.now c.loop-stream.stream-index _ _ c.loop-stream-test.false c.loop-stream.invariant.found
