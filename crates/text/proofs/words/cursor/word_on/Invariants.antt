use Rattle.std.proofs.Common.{◌≡◌, ◌<◌, ◌≤◌, ◌-◌, ◌+◌, length, drop}
use Rattle.text.specs.Words.{word_length}
use Rattle.text.proofs.words.cursor.word_on.Given as goal

abbrev pub invariant-loop-next : goal.invariant-loop-next
invariant-loop-next l = record {
  onward : l.place < l.next;
  within : l.next ≤ length l.octets;
  word : word_length (drop l.place l.octets) + l.place ≡ l.next + word_length (drop l.next l.octets);
}

abbrev pub decreases-loop-next : goal.decreases-loop-next
decreases-loop-next l = length l.octets - l.next
