use Rattle.std.proofs.Common.{sym, ◌∙◌}
use Rattle.network.specs.Network.{bad_stream}
use Rattle.network.specs.Reads.{seen}
use Rattle.network.proofs.FirstLaws.{first_here, first_more, first_none}
use Rattle.network.proofs.network_table.ends.first_bad_of.Goals as goal

pub returns-in-Some : goal.returns-in-Some
returns-in-Some g c = first_here (bad_stream (seen c.args.network.now)) c.args.streams.now c.loop-stream.stream-index _ c.in-Some.bad _ c.loop-stream-test.true (sym c.bad_stream.ensures ∙ c.in-Some.is) c.loop-stream.invariant

pub loop-stream-preserved : goal.loop-stream-preserved
loop-stream-preserved g c = first_more (bad_stream (seen c.args.network.now)) c.args.streams.now c.loop-stream.stream-index _ _ c.loop-stream-test.true (sym c.bad_stream.ensures ∙ c.in_default.is) c.loop-stream.invariant

pub returns : goal.returns
returns g c = first_none (bad_stream (seen c.args.network.now)) c.args.streams.now c.loop-stream.stream-index _ c.loop-stream-test.false c.loop-stream.invariant
