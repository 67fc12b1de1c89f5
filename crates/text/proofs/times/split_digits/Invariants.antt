use Rattle.std.proofs.Common.{◌≡◌, ◌≤◌, ◌-◌, ◌+◌, length, drop}
use Rattle.text.specs.Times.{leading_digits}
use Rattle.text.proofs.times.split_digits.Given as goal

abbrev pub invariant-loop-end : goal.invariant-loop-end
invariant-loop-end l = record { within : l.end ≤ length l.word; digits : leading_digits l.word ≡ l.end + leading_digits (drop l.end l.word) }

abbrev pub decreases-loop-end : goal.decreases-loop-end
decreases-loop-end l = length l.word - l.end
