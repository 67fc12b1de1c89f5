use Rattle.std.proofs.Common.{◌≡◌, max, drop}
use Rattle.window_bounds.specs.Flows.{longest_need}
use Rattle.window_bounds.proofs.whole.longest_need.Given as goal

-- the longest so far, and of those to come
abbrev pub invariant-loop-flow : goal.invariant-loop-flow
invariant-loop-flow l = max l.need (longest_need (drop l.flow-index l.flows)) ≡ longest_need l.flows
