use Rattle.std.proofs.Common.{◌≡◌, [], true, false, length, ap, codes, subst, ◌∙◌, rules, arith}
use Rattle.std.specs.Str.{bytes_eq}
use Rattle.std.proofs.lemmas.Result.{err_from_is_err_and}
use Rattle.port_text.specs.Words.{words_left, total}
use Rattle.port_text.proofs.HeadsLemmas.{HeadsSoFar, HeadsSoFar-more, HeadsSoFar-fault, HeadsSoFar-taprio, HeadsSoFar-end}
use Rattle.port_text.proofs.tc_reader.heads.read_heads.Goals as goal

pub returns-then-eq-clause-heads : goal.returns-then-eq-clause-heads
returns-then-eq-clause-heads c =
    let start = words_left c.args.words.now in
    let w = c.in-Some.word.now in
    let ws = words_left c.next_word.new.self in
    let is : bytes_eq w (codes "taprio") ≡ true = search rules in
    HeadsSoFar-taprio start w ws c.loop-word.seen (subst (λ l. HeadsSoFar start l c.loop-word.seen) c.in-Some.ensures.word c.loop-word.invariant.so_far) is

pub loop-word-preserved : goal.loop-word-preserved
loop-word-preserved c =
    let start = words_left c.args.words.now in
    let w = c.in-Some.word.now in
    let ws = words_left c.next_word.new.self in
    let is : bytes_eq w (codes "taprio") ≡ false = search rules in
    let same : total c.next_word.new.self ≡ total c.loop-word.words = omega (arith, c.in-Some.ensures.taken, ap length c.in-Some.ensures.word) in
    record {
      moves = (c.take_head.ensures.moves.0 ∙ same ∙ c.loop-word.invariant.moves.0, omega (arith, c.in-Some.ensures.taken, c.take_head.ensures.moves.1, c.loop-word.invariant.moves.1));
      so_far = HeadsSoFar-more start w ws (words_left c.take_head.new.words) c.loop-word.seen c.take_head.new.seen (subst (λ l. HeadsSoFar start l c.loop-word.seen) c.in-Some.ensures.word c.loop-word.invariant.so_far) is c.in_ok-take_head.ensures.head;
    }

pub returns-in_err-take_head-clause-heads : goal.returns-in_err-take_head-clause-heads
returns-in_err-take_head-clause-heads c =
    let p = err_from_is_err_and c.from_residual.result c.from_residual.ensures.1 in
    let start = words_left c.args.words.now in
    let w = c.in-Some.word.now in
    let ws = words_left c.next_word.new.self in
    let is : bytes_eq w (codes "taprio") ≡ false = search rules in
    rw (p.1, p.2) (HeadsSoFar-fault start w ws c.loop-word.seen c.in_err-take_head.field-0.0 (subst (λ l. HeadsSoFar start l c.loop-word.seen) c.in-Some.ensures.word c.loop-word.invariant.so_far) is c.in_err-take_head.ensures.head)

pub returns-clause-heads : goal.returns-clause-heads
returns-clause-heads c =
    let start = words_left c.args.words.now in
    let none : words_left c.loop-word.words ≡ [] = search rules in
    HeadsSoFar-end start c.loop-word.seen (subst (λ l. HeadsSoFar start l c.loop-word.seen) none c.loop-word.invariant.so_far)
