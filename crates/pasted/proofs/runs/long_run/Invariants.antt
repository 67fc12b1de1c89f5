use Rattle.pasted.proofs.RunLaws.{GoesTo}
use Rattle.pasted.proofs.runs.long_run.Given as goal

abbrev pub invariant-loop-place : goal.invariant-loop-place
invariant-loop-place l = GoesTo l.is_whole l.fn.tail l.octets l.last l.place
