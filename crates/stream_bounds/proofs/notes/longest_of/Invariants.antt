use Rattle.std.specs.Prelude.{IfSome}
use Rattle.stream_bounds.specs.Classes.{IsPeriodic}
use Rattle.stream_bounds.proofs.notes.longest_of.Given as goal

abbrev pub invariant-loop-stream : goal.invariant-loop-stream
invariant-loop-stream l = IfSome l.longest (λ longest. IsPeriodic longest.0)
