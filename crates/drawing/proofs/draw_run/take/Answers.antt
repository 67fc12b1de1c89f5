use Rattle.std.proofs.Common.{refl, sym, ap, ◌∙◌, arith}
use Rattle.std.specs.Prelude.{Some, ⊤}
use Rattle.abstract_port.proofs.AskedLaws.{given_fewer}
use Rattle.drawing.specs.Words.{answers_left, seen_all}
use Rattle.abstract_port.specs.Asked.{with_answer}
use Rattle.script.proofs.FewLaws.{few_answered, few_first}
use Rattle.drawing.proofs.draw_run.take.Goals as goal

pub loop-answer-smaller : goal.loop-answer-smaller
loop-answer-smaller g c =
    let n = c.next_answer.ensures in
    let fewer = given_fewer _ _ c.next_answer.result c.in-Some.answer _ _ c.in-Some.is (record { answers = n.answers; port = n.port; none = n.none; more = n.more }) in
    omega (arith, fewer)

pub loop-answer-init : goal.loop-answer-init
loop-answer-init g c = record { seen = refl; same_end = refl; few = few_first ⊤ c.args.port.now (Some c.args.event.now) }

pub loop-answer-preserved : goal.loop-answer-preserved
loop-answer-preserved g c =
    let n = c.next_answer.ensures in
    let i = c.loop-answer.invariant in
    let all = sym n.answers ∙ ap (λ x. with_answer x (answers_left c.next_answer.new.asked c.next_answer.new.self.port).0) c.in-Some.is in
    record {
      seen =
          ap (λ x. seen_all c.now-now.result c.asked_at-beside.result (answers_left c.next_answer.new.asked c.next_answer.new.self.port).0 x) c.see.ensures
          ∙ ap (λ answers. seen_all c.now-now.result c.asked_at-beside.result answers c.loop-answer.course) (sym all)
          ∙ i.seen;
      same_end = n.port ∙ i.same_end;
      few = few_answered c.args.port.now _ c.loop-answer.port i.few _ _ c.next_answer.new.self (record { answers = n.answers; port = n.port; none = n.none; more = n.more }) n.visits (n.few refl);
    }

pub returns-clause-few : goal.returns-clause-few
returns-clause-few g c =
    let n = c.next_answer.ensures in
    (few_answered c.args.port.now _ c.loop-answer.port c.loop-answer.invariant.few _ _ c.next_answer.new.self (record { answers = n.answers; port = n.port; none = n.none; more = n.more }) n.visits (n.few refl)).0 tt
