use Rattle.std.proofs.Common.{◌≡◌, length}
use Rattle.traffic.specs.Words.{value_of, words_left}
use Rattle.traffic.proofs.parts.value_of.Given as goal

abbrev pub invariant-parts : goal.invariant-parts
invariant-parts l = value_of l.name (words_left l.fn.words) ≡ value_of l.name (words_left l.words)

abbrev pub decreases-parts : goal.decreases-parts
decreases-parts l = length (words_left l.words)
