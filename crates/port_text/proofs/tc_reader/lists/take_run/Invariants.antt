use Rattle.std.proofs.Common.{◌≡◌, ◌-◌, List, take, length}
use Rattle.port_text.specs.Words.{words_left, words_taken, Moves, run_at, with_front}
use Rattle.port_text.proofs.tc_reader.lists.take_run.Given as goal

abbrev pub invariant-loop-words : goal.invariant-loop-words
invariant-loop-words g l =
    let first = words_taken l.fn.words in
    record {
      moves : Moves l.fn.words l.words;
      so_far : (front : List g.row.T.Denot) × (l.found.items ≡ take g.row.N front) × (with_front front (run_at g.T.ListValue.form (λ place. g.T.ListValue.value (place - first)) (words_taken l.words) (words_left l.words)) ≡ run_at g.T.ListValue.form (λ place. g.T.ListValue.value (place - first)) first (words_left l.fn.words));
    }

abbrev pub decreases-loop-words : goal.decreases-loop-words
decreases-loop-words g l = length (words_left l.words)
