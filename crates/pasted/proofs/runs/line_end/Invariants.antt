use Rattle.pasted.proofs.RunLaws.{IsOpenTo}
use Rattle.pasted.proofs.runs.line_end.Given as goal

abbrev pub invariant-loop-place : goal.invariant-loop-place
invariant-loop-place l = IsOpenTo l.is_whole l.octets l.place
