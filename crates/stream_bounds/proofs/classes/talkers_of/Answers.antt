use Rattle.stream_bounds.specs.Classes.{talker_of}
use Rattle.stream_bounds.proofs.PickLaws.{map_all}
use Rattle.stream_bounds.proofs.classes.talkers_of.Goals as goal

pub returns-clause-talkers : goal.returns-clause-talkers
returns-clause-talkers g c = map_all (talker_of c.args.rate c.args.sdu) c.args.streams.now c.loop-stream.stream-index _ _ c.loop-stream-test.false c.loop-stream.invariant.found
