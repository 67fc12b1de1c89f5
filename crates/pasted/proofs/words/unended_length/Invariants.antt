use Rattle.std.proofs.Common.{◌≡◌, ◌≤◌, ◌+◌, ◌-◌, length, take}
use Rattle.std.specs.List.{suffix_len}
use Rattle.pasted.specs.Plain.{is_end}
use Rattle.pasted.proofs.words.unended_length.Given as goal

abbrev pub invariant-loop-count : goal.invariant-loop-count
invariant-loop-count l = record { within : l.count ≤ length l.line; is : suffix_len is_end l.line ≡ (length l.line - l.count) + suffix_len is_end (take l.count l.line) }

abbrev pub decreases-loop-count : goal.decreases-loop-count
decreases-loop-count l = l.count
