use Rattle.std.proofs.Common.{◌++◌, ◌∷◌, [], List, Some, arith, sym, ap, refl, ◌∙◌, subst, rules}
use Rattle.port.specs.Words.{Answer}
use Rattle.abstract_port.specs.Answers.{IsBegun}
use Rattle.abstract_port.proofs.RunLaws.{timely-sound}
use Rattle.abstract_port.specs.Asked.{IsStopped}
use Rattle.abstract_port.proofs.AskedLaws.{Going, going_begins, going_more, going_last, going_fewer, gone_begun, gone_stopped, gone_answers, gone_port, asked_some, on_err_of}
use Rattle.port.proofs.FewLaws.{few_first, few_more}
use Rattle.port.proofs.StepLaws.{not_asked, stayed_more}
use Rattle.port.proofs.Port.take_event.Goals as goal

pub loop-asked-init : goal.loop-asked-init
loop-asked-init g c = (c.now-now.ensures.sound, going_begins _ _ _ c.now-now.ensures.sound, (λ none. (refl, refl)), few_first _ c.args.self.now (Some c.args.event.now))

pub returns-in_err-reserve-clause-err : goal.returns-in_err-reserve-clause-err
returns-in_err-reserve-clause-err g c =
    let e = asked_some _ (sym c.is_some.ensures ∙ c.loop-asked-test.true) in
    let P : List Answer → Type 0 = λ items. IsBegun c.args.event.now c.args.answers.now.items c.args.self.now.port items c.loop-asked.self.port in
    on_err_of c.from_residual.result _ (subst P (sym c.reserve.ensures.items) (gone_begun _ _ _ _ _ _ c.loop-asked.invariant.1 e.0 e.1))

pub returns-in_err-reserve-clause-stopped : goal.returns-in_err-reserve-clause-stopped
returns-in_err-reserve-clause-stopped g c =
    let e = asked_some _ (sym c.is_some.ensures ∙ c.loop-asked-test.true) in
    let P : List Answer → Type 0 = λ items. IsStopped c.args.event.now c.args.answers.now.items c.args.self.now.port items c.loop-asked.self.port in
    on_err_of c.from_residual.result _ (subst P (sym c.reserve.ensures.items) (gone_stopped _ _ _ _ _ _ c.loop-asked.invariant.1 e.0 e.1))

pub loop-asked-smaller-in-Continue-branch-2 : goal.loop-asked-smaller-in-Continue-branch-2
loop-asked-smaller-in-Continue-branch-2 g c =
    let e = asked_some _ (sym c.is_some.ensures ∙ c.loop-asked-test.true) in
    let n = c.next_answer.ensures in
    let fewer = going_fewer e.0 _ _ c.next_answer.result _ _ e.1 (record { answers = n.answers; port = n.port; none = n.none; more = n.more }) in
    omega (arith, fewer)

pub loop-asked-preserved-in-Continue-branch-2 : goal.loop-asked-preserved-in-Continue-branch-2
loop-asked-preserved-in-Continue-branch-2 g c =
    let n = c.next_answer.ensures in (
      n.sound,
      going_more _ _ _ _ _ _ c.loop-asked.invariant.1 (timely-sound _ c.now-now.ensures.sound) c.next_answer.result _ _ (record { answers = n.answers; port = n.port; none = n.none; more = n.more })
          c.in-Some.answer c.in-Some.is _ (c.in_ok-push-in-Some.ensures.items ∙ ap (λ x. x ++ c.in-Some.answer ∷ []) c.reserve.ensures.items),
      stayed_more _ c.args.self.now _ c.loop-asked.self c.loop-asked.invariant.2 c.loop-asked.invariant.1.same c.next_answer.result _ c.next_answer.new.self n.more n.visits,
      few_more _ c.args.self.now _ c.loop-asked.self c.loop-asked.invariant.3 (sym c.is_some.ensures ∙ c.loop-asked-test.true) c.next_answer.result _ c.next_answer.new.self n.more n.few,
    )

pub loop-asked-smaller : goal.loop-asked-smaller
loop-asked-smaller g c =
    let e = asked_some _ (sym c.is_some.ensures ∙ c.loop-asked-test.true) in
    let n = c.next_answer.ensures in
    let fewer = going_fewer e.0 _ _ c.next_answer.result _ _ e.1 (record { answers = n.answers; port = n.port; none = n.none; more = n.more }) in
    omega (arith, fewer)

pub loop-asked-preserved : goal.loop-asked-preserved
loop-asked-preserved g c =
    let n = c.next_answer.ensures in (
      n.sound,
      subst (λ items. Going c.args.event.now c.args.answers.now.items c.args.self.now.port c.next_answer.new.asked items c.next_answer.new.self.port) (sym c.reserve.ensures.items)
          (going_last _ _ _ _ _ _ c.loop-asked.invariant.1 (timely-sound _ c.now-now.ensures.sound) c.next_answer.result _ _ (record { answers = n.answers; port = n.port; none = n.none; more = n.more }) c.in-None.is),
      stayed_more _ c.args.self.now _ c.loop-asked.self c.loop-asked.invariant.2 c.loop-asked.invariant.1.same c.next_answer.result _ c.next_answer.new.self n.more n.visits,
      few_more _ c.args.self.now _ c.loop-asked.self c.loop-asked.invariant.3 (sym c.is_some.ensures ∙ c.loop-asked-test.true) c.next_answer.result _ c.next_answer.new.self n.more n.few,
    )

pub returns-clause-visits : goal.returns-clause-visits
returns-clause-visits g c = λ none. (c.loop-asked.invariant.2 none).0

pub returns-clause-few : goal.returns-clause-few
returns-clause-few g c = c.loop-asked.invariant.3.0

pub returns-in_err-reserve-clause-few : goal.returns-in_err-reserve-clause-few
returns-in_err-reserve-clause-few g c = c.loop-asked.invariant.3.0

pub returns-clause-ok : goal.returns-clause-ok
returns-clause-ok g c = gone_answers _ _ _ _ _ _ c.loop-asked.invariant.1 (not_asked _ (sym c.is_some.ensures ∙ c.loop-asked-test.false))

pub returns-clause-port : goal.returns-clause-port
returns-clause-port g c = gone_port _ _ _ _ _ _ c.loop-asked.invariant.1 (not_asked _ (sym c.is_some.ensures ∙ c.loop-asked-test.false)) c.loop-asked.invariant.0

pub push-requires : goal.push-requires
push-requires g c = search rules

pub now-now-requires : goal.now-now-requires
now-now-requires g c = search

pub is_some-requires : goal.is_some-requires
is_some-requires g c = search rules

pub reserve-requires : goal.reserve-requires
reserve-requires g c = search rules

pub next_answer-requires : goal.next_answer-requires
next_answer-requires g c = search
