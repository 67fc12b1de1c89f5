use Rattle.std.proofs.Common.{◌≡◌, ◌++◌, All, drop, map}
use Rattle.stream_bounds.specs.Classes.{jittered_of}
use Rattle.window_bounds.specs.Flows.{IsFlow}
use Rattle.stream_bounds.proofs.classes.jittered_flows_of.Given as goal

abbrev pub invariant-loop-stream : goal.invariant-loop-stream
invariant-loop-stream g l = record { found : l.flows.items ++ map (jittered_of l.rate l.sdu) (drop l.stream-index l.streams) ≡ map (jittered_of l.rate l.sdu) l.streams; fit : All IsFlow l.flows.items }
