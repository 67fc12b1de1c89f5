use Rattle.std.proofs.Common.{ℕ, ◌-◌, ◌++◌, ◌∷◌, [], take, length, ap, ◌∙◌, arith}
use Rattle.port_text.specs.Words.{words_left, words_taken, run_at}
use Rattle.port_text.proofs.RunLemmas.{run_told, take-push}
use Rattle.port_text.proofs.tc_reader.lists.take_front_run.Goals as goal

pub values-preserved : goal.values-preserved
values-preserved g c =
    let l = c.values in
    let next = c.front_value.new.words in
    let x = c.in-Some.value in
    let told = c.in-Some.ensures.value in
    let taken = c.in-Some.ensures.taken in
    let form = g.T.ListValue.form in
    record {
      moves = (omega (arith, taken, ap length told.1, l.invariant.moves.0), omega (arith, taken, l.invariant.moves.1));
      so_far = λ first.
          let was = l.invariant.so_far first in
          let value = λ (place : ℕ). g.T.ListValue.value (place - first) in
          let all = run_at form value (words_taken c.args.words.now) (words_left c.args.words.now) in (
            was.0 ++ x ∷ [],
            c.push_capped.ensures ∙ ap (λ xs. take g.row.N (xs ++ x ∷ [])) was.1 ∙ take-push g.row.N was.0 x,
            rw taken (run_told g.T.ListValue.option form value was.0 (words_taken l.words) (words_left l.words) (words_left next) told.0 x all told.1 told.2 (told.3 (words_taken l.words - first)) was.2),
          );
    }

pub returns-clause-value : goal.returns-clause-value
returns-clause-value g c = λ first. rw c.in_default.ensures.value (c.values.invariant.so_far first)
