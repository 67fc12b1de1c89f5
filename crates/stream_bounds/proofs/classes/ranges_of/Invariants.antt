use Rattle.std.proofs.Common.{◌≡◌, ◌++◌, drop, map}
use Rattle.stream_bounds.specs.Verdicts.{range_of}
use Rattle.stream_bounds.proofs.classes.ranges_of.Given as goal

abbrev pub invariant-loop-stream : goal.invariant-loop-stream
invariant-loop-stream g l = record { found : l.ranges.items ++ map (range_of l.wait) (drop l.stream-index l.streams) ≡ map (range_of l.wait) l.streams }
