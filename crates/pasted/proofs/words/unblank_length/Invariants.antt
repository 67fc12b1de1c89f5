use Rattle.std.proofs.Common.{◌≡◌, ◌≤◌, ◌+◌, ◌-◌, length, take}
use Rattle.std.specs.List.{suffix_len}
use Rattle.text.specs.Words.{is_blank}
use Rattle.pasted.proofs.words.unblank_length.Given as goal

abbrev pub invariant-loop-count : goal.invariant-loop-count
invariant-loop-count l = record { within : l.count ≤ length l.line; is : suffix_len is_blank l.line ≡ (length l.line - l.count) + suffix_len is_blank (take l.count l.line) }

abbrev pub decreases-loop-count : goal.decreases-loop-count
decreases-loop-count l = l.count
