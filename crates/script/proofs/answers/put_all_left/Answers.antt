use Rattle.std.proofs.lemmas.Result.{err_from_is_err_and}
use Rattle.text.proofs.Fronts.{sent_all, sent_exit, sent_more, sent_none}
use Rattle.script.proofs.AlertLaws.{alerted_all, alerted_first, alerted_more, alerted_none, alerting_fault, alerts-class, alerts-over}
use Rattle.script.proofs.LeftLaws.{left-class, left-over}
use Rattle.script.proofs.answers.put_all_left.Goals as goal

pub loop-class-init : goal.loop-class-init
loop-class-init g c = record { sent = sent_none _ _; alerts = alerted_none g.H.Watch.alerted g.met.H.Watch.nothing _ c.args.watch.now }

pub returns-in_err-put_left_in-clause-text : goal.returns-in_err-put_left_in-clause-text
returns-in_err-put_left_in-clause-text g c =
    let p = err_from_is_err_and c.from_residual.result c.from_residual.ensures.1 in
    sent_exit _ _ _ p.1 c.loop-class.invariant.sent (left-class c.loop-class.class c.args.port.now.port c.loop-class-test.true) c.in_err-put_left_in.ensures.text

pub returns-in_err-put_left_in-clause-alerts : goal.returns-in_err-put_left_in-clause-alerts
returns-in_err-put_left_in-clause-alerts g c =
    let p = err_from_is_err_and c.from_residual.result c.from_residual.ensures.1 in
    alerting_fault g.H.Watch.alerted _ c.args.watch.now c.put_left_in.new.watch c.from_residual.result _ p.1
    (alerted_first g.H.Watch.alerted _ _ c.args.watch.now c.put_left_in.new.watch (alerted_more g.H.Watch.alerted g.met.H.Watch.both _ _ _ _ _ _ _ c.loop-class.invariant.alerts (alerts-class c.loop-class.class c.args.port.now.port c.loop-class-test.true) c.in_err-put_left_in.ensures.alerts))

pub loop-class-preserved : goal.loop-class-preserved
loop-class-preserved g c = record {
  sent = sent_more _ _ _ c.loop-class.invariant.sent (left-class c.loop-class.class c.args.port.now.port c.loop-class-test.true) c.in_ok-put_left_in.ensures.text;
  alerts = alerted_more g.H.Watch.alerted g.met.H.Watch.both _ _ _ _ _ _ _ c.loop-class.invariant.alerts (alerts-class c.loop-class.class c.args.port.now.port c.loop-class-test.true) c.in_ok-put_left_in.ensures.alerts;
}

pub returns-clause-text : goal.returns-clause-text
returns-clause-text g c = sent_all c.loop-class.invariant.sent (left-over c.loop-class.class c.args.port.now.port c.loop-class-test.false)

pub returns-clause-alerts : goal.returns-clause-alerts
returns-clause-alerts g c = alerted_all g.H.Watch.alerted _ _ _ _ c.loop-class.invariant.alerts (alerts-over c.loop-class.class c.args.port.now.port c.loop-class-test.false)
