use Rattle.network.specs.Reads.{seen}
use Rattle.paths.proofs.WayLaws.{way_end, way_more}
use Rattle.paths.proofs.ways.put_streams.Goals as goal

pub loop-stream-preserved : goal.loop-stream-preserved
loop-stream-preserved c = record {
  so_far = way_more (seen c.args.network.now) c.args.streams.now c.loop-stream.stream-index _ c.loop-stream.number _ c.loop-stream.kept.items
      c.put_stream.new.kept.items _ c.loop-stream-test.true c.saturating_add-number.ensures c.in_ok-put_stream.ensures.way c.loop-stream.invariant.so_far;
  all = c.put_stream.ensures.all;
}

pub returns-clause-ways : goal.returns-clause-ways
returns-clause-ways c =
    way_end (seen c.args.network.now) c.args.streams.now c.loop-stream.stream-index c.loop-stream.number c.loop-stream.kept.items _
    c.loop-stream-test.false c.loop-stream.invariant.so_far
