use Rattle.stream_bounds.specs.Classes.{jittered_of}
use Rattle.stream_bounds.proofs.PickLaws.{map_all}
use Rattle.stream_bounds.proofs.classes.jittered_flows_of.Goals as goal

pub returns-clause-flows : goal.returns-clause-flows
returns-clause-flows g c = map_all (jittered_of c.args.rate c.args.sdu) c.args.streams.now c.loop-stream.stream-index _ _ c.loop-stream-test.false c.loop-stream.invariant.found
