use Rattle.std.proofs.Common.{◌≡◌, ◌≤◌, length}
use Rattle.text.specs.WordsLeft.{words_left}
use Rattle.schedule_check.specs.Refusals.{map_in, map_on}
use Rattle.schedule_check.proofs.refusals.read_map.Given as goal

-- what is read and what is to come
abbrev pub invariant-loop-word : goal.invariant-loop-word
invariant-loop-word l = record {
  same : map_on l.count l.classes.items (words_left l.words) ≡ map_in l.text;
  few : l.count ≤ 8;
}

abbrev pub decreases-loop-word : goal.decreases-loop-word
decreases-loop-word l = length (words_left l.words)
