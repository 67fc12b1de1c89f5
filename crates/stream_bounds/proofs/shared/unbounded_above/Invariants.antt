use Rattle.stream_bounds.specs.Shared.{IsHighestBelow}
use Rattle.stream_bounds.proofs.shared.unbounded_above.Given as goal

-- the highest of the classes that have been looked at
abbrev pub invariant-loop-other : goal.invariant-loop-other
invariant-loop-other l = IsHighestBelow l.schedule l.above l.class l.other l.found
