use Rattle.std.proofs.Common.{arith, [], ◌∷◌, sym, ap, ◌∙◌}
use Rattle.script.specs.Alerts.{Lost, verdict_alert}
use Rattle.script.specs.Words.{settled, Arrive}
use Rattle.abstract_port.specs.AbstractPort.{after_arrival, class_for, verdict}
use Rattle.abstract_port.specs.Answers.{arrival_answer}
use Rattle.script.proofs.AlertLaws.{alerts_same, verdict-alerts}
use Rattle.script.proofs.GivenLaws.{always, one_noted, one_written}
use Rattle.script.proofs.StartsLaws.{settled-sound}
use Rattle.script.proofs.answers.put_frame.Goals as goal

pub returns-in-Ok-clause-answered : goal.returns-in-Ok-clause-answered
returns-in-Ok-clause-answered g c =
    let e = c.arrive.ensures in
    let f = c.args.frame.now in
    let given = sym c.in-Ok.is ∙ e.answer in
    let same = e.port ∙ ap (after_arrival c.args.port.now.port f) e.answer in
    let noted = one_noted c.now-now.result (Arrive f) c.args.port.now.port c.args.summary.now _ c.now-now.ensures.now (ap (λ v. arrival_answer f v ∷ []) given) in
    record {
      text = one_written c.put_arrival.result _ _ _ _ (ap (arrival_answer f) given) c.put_arrival.ensures;
      port = always c.put_arrival.result (sym (settled-sound c.arrive.new.self.port e.sound) ∙ ap settled same);
      seen = always c.put_arrival.result (c.note_verdict.ensures ∙ noted);
      sound = always c.put_arrival.result e.sound;
      few = omega (arith, e.visits);
    }

pub returns-in-Err-clause-answered : goal.returns-in-Err-clause-answered
returns-in-Err-clause-answered g c =
    let e = c.arrive.ensures in
    let f = c.args.frame.now in
    let given = sym c.in-Err.is ∙ e.answer in
    let same = e.port ∙ ap (after_arrival c.args.port.now.port f) e.answer in
    let noted = one_noted c.now-now.result (Arrive f) c.args.port.now.port c.args.summary.now _ c.now-now.ensures.now (ap (λ v. arrival_answer f v ∷ []) given) in
    record {
      text = one_written c.put_arrival-in-Err.result _ _ _ _ (ap (arrival_answer f) given) c.put_arrival-in-Err.ensures;
      port = always c.put_arrival-in-Err.result (sym (settled-sound c.arrive.new.self.port e.sound) ∙ ap settled same);
      seen = always c.put_arrival-in-Err.result (c.note_verdict-in-Err.ensures ∙ noted);
      sound = always c.put_arrival-in-Err.result e.sound;
      few = omega (arith, e.visits);
    }

pub returns-in-Ok-clause-alerts : goal.returns-in-Ok-clause-alerts
returns-in-Ok-clause-alerts g c =
    let p = c.args.port.now.port in
    let f = c.args.frame.now in
    let same = ap (verdict_alert p.now f) (sym c.in-Ok.is ∙ c.arrive.ensures.answer) ∙ verdict-alerts p.now f (class_for p f.priority) (verdict p f) in
    alerts_same g.H.Watch.alerted [] _ c.args.watch.now c.frame_came.new.self same c.frame_came.ensures

pub returns-in-Err-clause-alerts : goal.returns-in-Err-clause-alerts
returns-in-Err-clause-alerts g c =
    let p = c.args.port.now.port in
    let f = c.args.frame.now in
    let same = ap (λ n. Lost n f c.in-Err.why ∷ []) c.now-now.ensures.now ∙ ap (verdict_alert p.now f) (sym c.in-Err.is ∙ c.arrive.ensures.answer) ∙ verdict-alerts p.now f (class_for p f.priority) (verdict p f) in
    alerts_same g.H.Watch.alerted (Lost c.now-now.result f c.in-Err.why ∷ []) _ c.args.watch.now c.frame_dropped.new.self same c.frame_dropped.ensures
