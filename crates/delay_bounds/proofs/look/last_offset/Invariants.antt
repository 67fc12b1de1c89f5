use Rattle.std.proofs.Common.{◌≡◌, max, drop}
use Rattle.delay_bounds.specs.Walked.{last_offset}
use Rattle.delay_bounds.proofs.look.last_offset.Given as goal

-- the latest so far, and of those to come
abbrev pub invariant-loop-flow : goal.invariant-loop-flow
invariant-loop-flow l = max l.last (last_offset (drop l.flow-index l.flows)) ≡ last_offset l.flows
