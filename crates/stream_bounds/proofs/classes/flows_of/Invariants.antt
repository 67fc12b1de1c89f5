use Rattle.std.proofs.Common.{◌≡◌, ◌++◌, All, drop, map}
use Rattle.stream_bounds.specs.Classes.{flow_of}
use Rattle.delay_bounds.specs.Claim.{IsFlow}
use Rattle.stream_bounds.proofs.classes.flows_of.Given as goal

abbrev pub invariant-loop-stream : goal.invariant-loop-stream
invariant-loop-stream g l = record { found : l.flows.items ++ map (flow_of l.rate) (drop l.stream-index l.streams) ≡ map (flow_of l.rate) l.streams; fit : All IsFlow l.flows.items }
