use Rattle.std.proofs.Common.{◌≡◌, ◌+◌, length, decimal}
use Rattle.drawing.proofs.marks.digits.Given as goal

abbrev pub invariant-loop-count : goal.invariant-loop-count
invariant-loop-count l = length (decimal l.number) + 1 ≡ l.count + length (decimal l.rest)
