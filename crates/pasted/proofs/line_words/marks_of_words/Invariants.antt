use Rattle.std.proofs.Common.{◌≡◌, [], length}
use Rattle.pasted.specs.Plain.{words_apart}
use Rattle.pasted.specs.Notes.{marks_of_words}
use Rattle.pasted.proofs.WordLaws.{marks_with}
use Rattle.pasted.proofs.line_words.marks_of_words.Given as goal

abbrev pub invariant-words : goal.invariant-words
invariant-words l = marks_of_words (words_apart [] [] l.octets) ≡ marks_with l.marks l.role (words_apart [] [] l.rest)

abbrev pub decreases-words : goal.decreases-words
decreases-words l = length l.rest
