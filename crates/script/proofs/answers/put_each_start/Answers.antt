use Rattle.std.proofs.Common.{refl, sym, ap, ◌∙◌}
use Rattle.std.proofs.lemmas.Result.{err_from_is_err_and}
use Rattle.std.specs.Prelude.{None, Some, ⊤}
use Rattle.script.specs.Words.{answers_to, Clock, noted_all}
use Rattle.abstract_port.specs.declared.Answer.TheVariants as Answered
use Rattle.text.proofs.Fronts.{sent_none, sent_more, sent_exit, sent_all}
use Rattle.script.proofs.GivenLaws.{fails}
use Rattle.script.proofs.OutputLaws.{lines_of_answers}
use Rattle.script.proofs.ClockLaws.{given_start, start_fewer, start_none, later_still}
use Rattle.summary.proofs.WantedLaws.{noted_all-cons, noted_all-event, noted_all-nil}
use Rattle.script.proofs.FewLaws.{few_first, few_stepped}
use Rattle.script.proofs.answers.put_each_start.Goals as goal

pub loop-start-init : goal.loop-start-init
loop-start-init g c = record {
  sent = sent_none _ _;
  same_seen = noted_all-event _ (Clock c.args.until) _ _ c.now-now.ensures.now;
  same_end = refl;
  few = few_first ⊤ c.args.port.now (Some (Clock c.args.until));
  later = c.requires.later;
  sound = c.now-now.ensures.sound;
}

pub loop-start-smaller : goal.loop-start-smaller
loop-start-smaller g c =
    let i = c.loop-start.invariant in
    let s = c.step.ensures in
    start_fewer c.args.until c.loop-start.port.port c.step.new.self.port i.sound i.later c.requires.within c.step.result s.start s.port c.in-Some.start c.in-Some.is

pub loop-start-preserved : goal.loop-start-preserved
loop-start-preserved g c =
    let i = c.loop-start.invariant in
    let s = c.step.ensures in
    let q = c.step.new.self.port in
    let given = given_start c.args.until c.loop-start.port.port q i.sound i.later c.requires.within c.step.result s.start s.port c.in-Some.start c.in-Some.is in
    let now = c.now-now.result in
    let rest = (answers_to (Clock c.args.until) q).0 in
    record {
      sent = sent_more _ _ _ i.sent (ap lines_of_answers (sym given.answers)) c.in_ok-put_start.ensures;
      same_seen = ap (noted_all now rest) c.note_start.ensures ∙ sym (noted_all-cons now (Answered.Start c.in-Some.start) rest _) ∙ ap (λ x. noted_all now x c.loop-start.summary) given.answers ∙ i.same_seen;
      same_end = given.port ∙ i.same_end;
      few = few_stepped c.args.port.now (Clock c.args.until) c.loop-start.port i.few (Some (Answered.Start c.in-Some.start)) (Some (Clock c.args.until)) c.step.new.self given.more (s.visits refl);
      later = later_still c.args.until c.loop-start.port.port q i.sound i.later c.requires.within c.step.result s.start s.port;
      sound = s.sound;
    }

pub returns-in_err-put_start : goal.returns-in_err-put_start
returns-in_err-put_start g c =
    let i = c.loop-start.invariant in
    let s = c.step.ensures in
    let p = err_from_is_err_and c.from_residual.result c.from_residual.ensures.1 in
    let given = given_start c.args.until c.loop-start.port.port c.step.new.self.port i.sound i.later c.requires.within c.step.result s.start s.port c.in-Some.start c.in-Some.is in
    fails _ _ _ _ _ _ _ p.1 (sent_exit _ _ _ p.1 i.sent (ap lines_of_answers (sym given.answers)) c.in_err-put_start.ensures)
    ((few_stepped c.args.port.now (Clock c.args.until) c.loop-start.port i.few (Some (Answered.Start c.in-Some.start)) (Some (Clock c.args.until)) c.step.new.self given.more (s.visits refl)).0 tt)

pub returns : goal.returns
returns g c =
    let i = c.loop-start.invariant in
    let s = c.step.ensures in
    let none = start_none c.args.until c.loop-start.port.port c.step.new.self.port i.sound i.later c.requires.within c.step.result s.start s.port s.sound c.in_default.is in
    let now = c.now-now.result in
    let summary = c.loop-start.summary in
    record {
      text = sent_all i.sent (ap lines_of_answers none.0);
      port = none.1 ∙ i.same_end;
      seen = sym (noted_all-nil now summary) ∙ (ap (λ x. noted_all now x summary) (sym none.0) ∙ i.same_seen);
      sound = s.sound;
      few = (few_stepped c.args.port.now (Clock c.args.until) c.loop-start.port i.few None None c.step.new.self tt (s.visits refl)).0 tt;
    }
