use Rattle.std.proofs.Common.{◌≡◌, ◌-◌, ◌∷◌, length, sym, ap, subst, ◌∙◌, rules, arith}
use Rattle.std.proofs.lemmas.Result.{err_from_is_err_and}
use Rattle.port_text.specs.Words.{words_left, words_taken, total, view, SoFar}
use Rattle.port_text.proofs.ReadsLemmas.{SoFar-begin, SoFar-took, SoFar-fault, SoFar-end}
use Rattle.port_text.proofs.tc_reader.option_list.read_options.Goals as goal

pub options-init : goal.options-init
options-init c = record {
  count = search rules;
  so_far = SoFar-begin (total c.args.words) (words_left c.args.words) (view c.args.given.now) c.requires;
}

pub returns-in_err-take_next : goal.returns-in_err-take_next
returns-in_err-take_next c =
    let p = err_from_is_err_and c.from_residual.result c.from_residual.ensures.1 in
    let l = c.options in
    let failed = c.in_err-take_next.ensures.next in
    let was = subst (λ v. SoFar (total c.args.words) (words_left c.args.words) v (view l.given)) failed.2 l.invariant.so_far in
    let at : words_taken l.rest ≡ total c.args.words - length (failed.0 ∷ failed.1) = omega (arith, l.invariant.count, ap length failed.2) in
    rw (p.1, p.2) (SoFar-fault (total c.args.words) (words_left c.args.words) failed.0 failed.1 (view l.given) (words_taken l.rest) c.in_err-take_next.field-0.0 was at failed.3)

pub options-smaller : goal.options-smaller
options-smaller c =
    let onward = c.in_ok-take_next.ensures.onward c.if-branch.true in
    omega (arith, onward, c.take_next.ensures.moves.0, c.take_next.ensures.moves.1, c.take_entries.ensures.moves.0, c.take_entries.ensures.moves.1)

pub options-preserved : goal.options-preserved
options-preserved c =
    let l = c.options in
    let took = rw c.if-branch.true at c.in_ok-take_next.ensures.next in
    let at : words_taken l.rest ≡ total c.args.words - length (words_left l.rest) = omega (arith, l.invariant.count) in
    let one = SoFar-took (total c.args.words) (words_left c.args.words) (words_left l.rest) (words_left c.take_next.new.words) (view l.given) (view c.take_next.new.given) (words_taken l.rest) took at l.invariant.so_far in
    let count : total c.take_next.new.words ≡ total c.args.words = c.take_next.ensures.moves.0 ∙ l.invariant.count in
    record {
      count = c.take_entries.ensures.moves.0 ∙ count;
      so_far = subst (λ n. SoFar n (words_left c.args.words) (words_left c.take_entries.new.words) (view c.take_entries.new.given)) count
          (c.take_entries.ensures.read (words_left c.args.words) (subst (λ n. SoFar n (words_left c.args.words) (words_left c.take_next.new.words) (view c.take_next.new.given)) (sym count) one));
    }

pub returns : goal.returns
returns c =
    let l = c.options in
    let end = rw c.if-branch.false at c.in_ok-take_next.ensures.next in
    let all = SoFar-end (total c.args.words) (words_left c.args.words) (view l.given) (subst (λ v. SoFar (total c.args.words) (words_left c.args.words) v (view l.given)) end.0 l.invariant.so_far) in
    (all.0, all.1, end.1 ∙ all.2)
