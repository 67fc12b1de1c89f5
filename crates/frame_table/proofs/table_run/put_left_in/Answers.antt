use Rattle.std.proofs.lemmas.Result.{err_from_is_err_and}
use Rattle.text.proofs.Fronts.{sent_exit, sent_more, sent_none}
use Rattle.script.proofs.AlertLaws.{alerted_more, alerted_none}
use Rattle.frame_table.specs.Words.{judged_row, row_line, waiting_in}
use Rattle.frame_table.proofs.AlertLaws.{alerting_in}
use Rattle.frame_table.proofs.LeftLaws.{row_at}
use Rattle.frame_table.proofs.table_run.put_left_in.Goals as goal

pub loop-place-init : goal.loop-place-init
loop-place-init g c = record { sent = sent_none _ _; told = alerted_none g.H.Watch.alerted g.met.H.Watch.nothing _ c.args.watch.now }

pub returns-in_err-put_row-clause-text : goal.returns-in_err-put_row-clause-text
returns-in_err-put_row-clause-text g c =
    let p = err_from_is_err_and c.from_residual.result c.from_residual.ensures.1 in
    sent_exit _ _ _ p.1 c.loop-place.invariant.sent (row_at (row_line c.args.streams.now) c.args.class (waiting_in c.args.arrivals.now c.args.class) c.loop-place.place _ c.get-arrival.ensures) c.in_err-put_row.ensures.text

pub returns-in_err-put_row-clause-alerts : goal.returns-in_err-put_row-clause-alerts
returns-in_err-put_row-clause-alerts g c =
    let p = err_from_is_err_and c.from_residual.result c.from_residual.ensures.1 in
    alerting_in g.H.Watch.alerted g.met.H.Watch.both _ _ _ _ _ _ _ _ _ p.1 c.loop-place.invariant.told (row_at (judged_row c.args.streams.now) c.args.class (waiting_in c.args.arrivals.now c.args.class) c.loop-place.place _ c.get-arrival.ensures) c.in_err-put_row.ensures.alerts

pub loop-place-preserved : goal.loop-place-preserved
loop-place-preserved g c = record {
  sent = sent_more _ _ _ c.loop-place.invariant.sent (row_at (row_line c.args.streams.now) c.args.class (waiting_in c.args.arrivals.now c.args.class) c.loop-place.place _ c.get-arrival.ensures) c.in_ok-put_row.ensures.text;
  told = alerted_more g.H.Watch.alerted g.met.H.Watch.both _ _ _ _ _ _ _ c.loop-place.invariant.told (row_at (judged_row c.args.streams.now) c.args.class (waiting_in c.args.arrivals.now c.args.class) c.loop-place.place _ c.get-arrival.ensures) c.in_ok-put_row.ensures.alerts;
}
