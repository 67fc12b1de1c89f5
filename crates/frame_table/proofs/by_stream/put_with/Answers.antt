use Rattle.frame_table.specs.Words.{frames_alerts}
use Rattle.frame_table.proofs.TableAlerts.{script_told}
use Rattle.frame_table.proofs.TableLaws.{of_scripts}
use Rattle.frame_table.proofs.by_stream.put_with.Goals as goal

pub returns-clause-table : goal.returns-clause-table
returns-clause-table g c = λ read is. of_scripts _ _ _ _ _ (g.R.Read.remaining c.args.reader) c.script_run.ensures (c.run_with-run.ensures.table read is)

pub returns-clause-alerts : goal.returns-clause-alerts
returns-clause-alerts g c = λ read is. script_told g.H.Watch.alerted (frames_alerts c.args.streams.now read c.args.settings) _ _ (g.R.Read.remaining c.args.reader) _ _ c.script_run.ensures (c.run_with-run.ensures.watched read is)
