use Rattle.std.proofs.Common.{◌≡◌, ◌++◌, All, drop, map}
use Rattle.stream_bounds.specs.Classes.{IsShort, talker_of}
use Rattle.burst_bounds.specs.Talkers.{IsTalker}
use Rattle.stream_bounds.proofs.classes.talkers_of.Given as goal

abbrev pub invariant-loop-stream : goal.invariant-loop-stream
invariant-loop-stream g l = record { found : l.talkers.items ++ map (talker_of l.rate l.sdu) (drop l.stream-index l.streams) ≡ map (talker_of l.rate l.sdu) l.streams; fit : All IsTalker l.talkers.items; short : All IsShort l.talkers.items }
