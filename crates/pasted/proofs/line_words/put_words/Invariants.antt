use Rattle.std.proofs.Common.{◌≡◌, ◌++◌, [], length}
use Rattle.pasted.specs.Plain.{kept_words, plain_words, words_apart}
use Rattle.pasted.proofs.line_words.put_words.Given as goal

abbrev pub invariant-words : goal.invariant-words
invariant-words g l = l.initial.out.items ++ plain_words l.octets ≡ l.out.items ++ kept_words l.role (words_apart [] [] l.rest)

abbrev pub decreases-words : goal.decreases-words
decreases-words g l = length l.rest
