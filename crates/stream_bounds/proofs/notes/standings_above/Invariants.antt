use Rattle.std.proofs.Common.{All}
use Rattle.stream_bounds.specs.Standing.{IsCounted}
use Rattle.stream_bounds.proofs.notes.standings_above.Given as goal

abbrev pub invariant-loop-other : goal.invariant-loop-other
invariant-loop-other l = All IsCounted l.above.items
