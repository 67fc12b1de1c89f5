use Rattle.std.proofs.Common.{Err, ap, ◌∙◌}
use Rattle.std.proofs.lemmas.Result.{err_from_is_err_and}
use Rattle.table_capture.proofs.OutcomeLaws.{of_octets, refused}
use Rattle.text.specs.Script.{script_of}
use Rattle.table_capture.proofs.AlertLaws as Alerts
use Rattle.table_capture.specs.Words.{carried, stream_alert, table_alerts}
use Rattle.table_capture.proofs.capture_job.write_capture.Goals as goal

pub returns-in_err-table-clause-written : goal.returns-in_err-table-clause-written
returns-in_err-table-clause-written g c =
    let p = err_from_is_err_and c.from_residual.result c.from_residual.ensures.1 in
    refused c.args.plan {T = Unit {0}} _ _ (p.1 ∙ ap Err p.2)

pub returns-clause-written : goal.returns-clause-written
returns-clause-written g c = of_octets c.args.plan _ _ _ (g.R.Read.remaining c.args.table) _ c.in_ok-table.ensures.left c.write_table.ensures.written

pub returns-in_err-table-clause-watched : goal.returns-in_err-table-clause-watched
returns-in_err-table-clause-watched g c =
    let p = err_from_is_err_and c.from_residual.result c.from_residual.ensures.1 in
    Alerts.none_read g.H.Watch.alerted g.met.H.Watch.nothing (λ octets. table_alerts stream_alert (carried c.args.plan) (script_of octets)) (g.R.Read.remaining c.args.table) _ c.args.watch.now (p.1 ∙ ap Err p.2)

pub returns-clause-watched : goal.returns-clause-watched
returns-clause-watched g c =
    Alerts.of_octets g.H.Watch.alerted (table_alerts stream_alert (carried c.args.plan)) (g.R.Read.remaining c.args.table) _ _ c.args.watch.now _ c.in_ok-table.ensures.left c.write_table.ensures.watched
