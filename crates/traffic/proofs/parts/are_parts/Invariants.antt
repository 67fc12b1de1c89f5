use Rattle.std.proofs.Common.{◌≡◌, length}
use Rattle.traffic.specs.Words.{are_parts, words_left}
use Rattle.traffic.proofs.parts.are_parts.Given as goal

abbrev pub invariant-parts : goal.invariant-parts
invariant-parts l = are_parts (words_left l.fn.words) ≡ are_parts (words_left l.words)

abbrev pub decreases-parts : goal.decreases-parts
decreases-parts l = length (words_left l.words)
