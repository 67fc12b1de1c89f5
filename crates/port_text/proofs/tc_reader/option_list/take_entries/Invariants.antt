use Rattle.std.proofs.Common.{List, length}
use Rattle.port_text.specs.Words.{Moves, SoFar, Word, words_left, total, view}
use Rattle.port_text.proofs.tc_reader.option_list.take_entries.Given as goal

abbrev pub invariant-entries : goal.invariant-entries
invariant-entries l = record {
  moves : Moves l.fn.words l.after;
  so_far : (start : List Word) → SoFar (total l.fn.words) start (words_left l.fn.words) (view l.fn.given) → SoFar (total l.fn.words) start (words_left l.after) (view l.given);
}

abbrev pub decreases-entries : goal.decreases-entries
decreases-entries l = length (words_left l.after)
