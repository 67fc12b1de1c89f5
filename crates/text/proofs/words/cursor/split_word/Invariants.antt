use Rattle.std.proofs.Common.{◌≡◌, ◌≤◌, ◌-◌, ◌+◌, length, drop}
use Rattle.text.specs.Words.{word_length, words_of}
use Rattle.text.proofs.words.cursor.split_word.Given as goal

abbrev pub invariant-loop-rest : goal.invariant-loop-rest
invariant-loop-rest l = record { words : words_of l.octets ≡ words_of l.rest; shorter : length l.rest ≤ length l.octets }

abbrev pub decreases-loop-rest : goal.decreases-loop-rest
decreases-loop-rest l = length l.rest

abbrev pub invariant-loop-end : goal.invariant-loop-end
invariant-loop-end l = record { within : l.end ≤ length l.rest; word : word_length l.rest ≡ l.end + word_length (drop l.end l.rest) }

abbrev pub decreases-loop-end : goal.decreases-loop-end
decreases-loop-end l = length l.rest - l.end
