use Rattle.frame_table.proofs.TableAlerts.{table_only, table_then}
use Rattle.frame_table.proofs.TableLaws.{put_with, unread}
use Rattle.frame_table.proofs.by_stream.put_by_stream.Goals as goal

pub returns-in-Ok-clause-table : goal.returns-in-Ok-clause-table
returns-in-Ok-clause-table g c = λ read is.
    let streams = rw c.new-streams.ensures at c.in-Ok.ensures.table in
    put_with c.in-Ok.field-0 read c.args.settings c.put_with.result _ _ _ _ (g.R.Read.remaining c.args.reader) streams (c.put_with.ensures.table read is)

pub returns-in-Ok-clause-alerts : goal.returns-in-Ok-clause-alerts
returns-in-Ok-clause-alerts g c = λ read is.
    let streams = rw c.new-streams.ensures at c.in-Ok.ensures.table in
    table_then g.H.Watch.alerted read c.args.settings g.met.H.Watch.both c.in-Ok.field-0 c.put_with.result _ _ (g.R.Read.remaining c.args.reader) _ _ _ streams c.in-Ok.ensures.alerts (c.put_with.ensures.alerts read is)

pub returns-in-Err-clause-table : goal.returns-in-Err-clause-table
returns-in-Err-clause-table g c = λ read is. unread read c.args.settings c.in-Err.fault c.table_fault.result _ _ _ _ (g.R.Read.remaining c.args.reader) c.in-Err.ensures.table c.table_fault.ensures

pub returns-in-Err-clause-alerts : goal.returns-in-Err-clause-alerts
returns-in-Err-clause-alerts g c = λ read is. table_only g.H.Watch.alerted read c.args.settings c.in-Err.fault c.table_fault.result _ (g.R.Read.remaining c.args.reader) _ _ _ _ c.in-Err.ensures.table c.in-Err.ensures.alerts c.table_fault.ensures
