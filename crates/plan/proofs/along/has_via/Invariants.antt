use Rattle.std.proofs.Common.{length}
use Rattle.text.specs.WordsLeft.{words_left}
use Rattle.plan.proofs.along.has_via.Given as goal

abbrev pub decreases-words : goal.decreases-words
decreases-words l = length (words_left l.words)
