use Rattle.stream_bounds.specs.Verdicts.{range_of}
use Rattle.stream_bounds.proofs.PickLaws.{map_all}
use Rattle.stream_bounds.proofs.classes.ranges_of.Goals as goal

pub returns-clause-ranges : goal.returns-clause-ranges
returns-clause-ranges g c = map_all (range_of c.args.wait) c.args.streams.now c.loop-stream.stream-index _ _ c.loop-stream-test.false c.loop-stream.invariant.found
