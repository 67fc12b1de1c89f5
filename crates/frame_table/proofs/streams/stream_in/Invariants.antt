use Rattle.std.proofs.Common.{◌≡◌, drop}
use Rattle.frame_table.specs.StreamOf.{stream_in}
use Rattle.frame_table.proofs.streams.stream_in.Given as goal

abbrev pub invariant-loop-stream : goal.invariant-loop-stream
invariant-loop-stream l = stream_in l.id l.streams ≡ stream_in l.id (drop l.stream-index l.streams)
