use Rattle.std.proofs.Common.{◌≡◌, ℕ, ◌-◌, List, take, length}
use Rattle.port_text.specs.Words.{words_left, words_taken, Moves, run_at, with_front}
use Rattle.port_text.proofs.tc_reader.lists.take_front_run.Given as goal

abbrev pub invariant-values : goal.invariant-values
invariant-values g l = record {
  moves : Moves l.fn.words l.words;
  so_far : (first : ℕ) → (front : List g.row.T.Denot) × (l.found.items ≡ take g.row.N front) × (with_front front (run_at g.T.ListValue.form (λ place. g.T.ListValue.value (place - first)) (words_taken l.words) (words_left l.words)) ≡ run_at g.T.ListValue.form (λ place. g.T.ListValue.value (place - first)) (words_taken l.fn.words) (words_left l.fn.words));
}

abbrev pub decreases-values : goal.decreases-values
decreases-values g l = length (words_left l.words)
