use Rattle.std.specs.Prelude.{IfSome}
use Rattle.delay_bounds.specs.Claim.{IsFlow}
use Rattle.stream_bounds.proofs.busy.shortest.Given as goal

abbrev pub invariant-loop-flow : goal.invariant-loop-flow
invariant-loop-flow l = IfSome l.least IsFlow
