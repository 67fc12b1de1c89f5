use Rattle.std.proofs.Common.{◌≡◌, drop}
use Rattle.network.specs.Network.{bad_stream, first_of}
use Rattle.network.specs.Reads.{seen}
use Rattle.network.proofs.network_table.ends.first_bad_of.Given as goal

abbrev pub invariant-loop-stream : goal.invariant-loop-stream
invariant-loop-stream g l = first_of (bad_stream (seen l.network)) (drop l.stream-index l.streams) ≡ first_of (bad_stream (seen l.network)) l.streams
