use Rattle.std.proofs.Common.{All}
use Rattle.stream_bounds.specs.Classes.{IsPeriodic}
use Rattle.stream_bounds.proofs.notes.with_offsets.Given as goal

abbrev pub invariant-loop-stream : goal.invariant-loop-stream
invariant-loop-stream l = All IsPeriodic l.known.items
