use Rattle.std.proofs.Common.{◌≡◌, take}
use Rattle.delay_bounds.specs.Claim.{offsets_of}
use Rattle.delay_bounds.proofs.line.first_moments.Given as goal

abbrev pub invariant-loop-flow : goal.invariant-loop-flow
invariant-loop-flow g l = l.nexts.items ≡ offsets_of (take l.flow-index l.flows)
