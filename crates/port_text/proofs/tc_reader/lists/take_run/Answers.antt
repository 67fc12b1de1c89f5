use Rattle.std.proofs.Common.{◌≡◌, ◌-◌, ◌++◌, ◌∷◌, [], true, false, take, Ok, Err, sym, ap, subst, ◌∙◌, rules, arith}
use Rattle.std.proofs.lemmas.Result.{err_from_is_err_and}
use Rattle.port_text.specs.Words.{words_left, words_taken, value_at, run_at, begins, first_ones}
use Rattle.port_text.proofs.RunLemmas.{run_continues, run_continues_fails, run_stops, take-push}
use Rattle.port_text.proofs.tc_reader.lists.take_run.Goals as goal

pub returns-in_err-value-clause-value : goal.returns-in_err-value-clause-value
returns-in_err-value-clause-value g c =
    let p = err_from_is_err_and c.from_residual.result c.from_residual.ensures.1 in
    let l = c.loop-words.words in
    let start = c.args.words.now in
    let all = run_at g.T.ListValue.form (λ place. g.T.ListValue.value (place - words_taken start)) (words_taken start) (words_left start) in
    let next : begins g.T.ListValue.form (words_left l) ≡ true = search rules in
    let failed = subst (λ n. value_at g.T.ListValue.option (g.T.ListValue.value (words_taken l - n)) (words_taken l) (words_left l) ≡ Err c.in_err-value.field-0.0) c.place-first.ensures c.in_err-value.ensures.value in
    rw (p.1, p.2) (run_continues_fails g.T.ListValue.option g.T.ListValue.form (λ place. g.T.ListValue.value (place - words_taken start)) c.loop-words.invariant.so_far.0 (words_taken l) (words_left l) c.in_err-value.field-0.0 all next failed c.loop-words.invariant.so_far.2)

pub loop-words-preserved : goal.loop-words-preserved
loop-words-preserved g c =
    let l = c.loop-words.words in
    let start = c.args.words.now in
    let x = c.in_ok-value.value in
    let front = c.loop-words.invariant.so_far.0 in
    let all = run_at g.T.ListValue.form (λ place. g.T.ListValue.value (place - words_taken start)) (words_taken start) (words_left start) in
    let next : begins g.T.ListValue.form (words_left l) ≡ true = search rules in
    let read = subst (λ n. value_at g.T.ListValue.option (g.T.ListValue.value (words_taken l - n)) (words_taken l) (words_left l) ≡ Ok (x, words_left c.take_next.new.words)) c.place-first.ensures c.in_ok-value.ensures.value in
    let step = run_continues g.T.ListValue.option g.T.ListValue.form (λ place. g.T.ListValue.value (place - words_taken start)) front (words_taken l) (words_left l) (words_left c.take_next.new.words) x all next read c.loop-words.invariant.so_far.2 in
    record {
      moves = (c.take_next.ensures.moves.0 ∙ c.loop-words.invariant.moves.0, omega arith);
      so_far = (
        front ++ x ∷ [],
        c.push_capped.ensures ∙ ap (λ xs. take g.row.N (xs ++ x ∷ [])) c.loop-words.invariant.so_far.1 ∙ take-push g.row.N front x,
        rw c.in_ok-value.ensures.place step,
      );
    }

pub returns-clause-value : goal.returns-clause-value
returns-clause-value g c =
    let l = c.loop-words.words in
    let start = c.args.words.now in
    let all = run_at g.T.ListValue.form (λ place. g.T.ListValue.value (place - words_taken start)) (words_taken start) (words_left start) in
    let stops : begins g.T.ListValue.form (words_left l) ≡ false = search rules in
    let whole = run_stops g.T.ListValue.form (λ place. g.T.ListValue.value (place - words_taken start)) c.loop-words.invariant.so_far.0 (words_taken l) (words_left l) all stops c.loop-words.invariant.so_far.2 in
    ap (first_ones g.row.N) whole ∙ ap (λ xs. Ok (xs, words_left l)) (sym c.loop-words.invariant.so_far.1)

pub loop-words-init : goal.loop-words-init
loop-words-init g c = record { moves = c.take_front_run.ensures.moves; so_far = c.take_front_run.ensures.value (words_taken c.args.words.now) }
