use Rattle.job.proofs.RunEndLaws.{ended, input_out, out_of_input}
use Rattle.table_capture.specs.Outcome.{outcome_of}
use Rattle.traffic.specs.Faults.{streams_telling}
use Rattle.text.specs.Script.{script_of}
use Rattle.table_capture.proofs.AlertLaws as Alerts
use Rattle.table_capture.specs.Words.{carried, stream_alert, table_alerts}
use Rattle.table_capture.proofs.capture_job.answer_capture.Goals as goal

pub returns-clause-ending : goal.returns-clause-ending
returns-clause-ending g c =
    let table = g.R.Read.remaining c.args.reader.now in
    ended streams_telling _ _ _ _ _ _ _ c.end_run.ensures
    (λ run out same keeps. out_of_input table (outcome_of c.args.plan) _ _ out _ run keeps same (input_out table (outcome_of c.args.plan) _ _ _ c.write_capture-run.ensures.written))

pub returns-clause-watched : goal.returns-clause-watched
returns-clause-watched g c = (
  c.end_run.ensures.run,
  c.end_run.ensures.status,
  Alerts.ended g.H.Watch.alerted (λ octets. table_alerts stream_alert (carried c.args.plan) (script_of octets)) (g.R.Read.remaining c.args.reader.now)
      c.write_capture-run.result c.end_run.ensures.run c.args.watch.now c.write_capture-run.new.watch c.end_run.ensures.left.0 c.write_capture-run.ensures.watched,
)
