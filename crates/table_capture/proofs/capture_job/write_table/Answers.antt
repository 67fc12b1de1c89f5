use Rattle.std.proofs.Common.{All, Result, Err, ap, ◌∙◌, subst}
use Rattle.script.specs.declared.faults.ScriptFault.{ScriptFault}
use Rattle.traffic.specs.Kept.{Keeping}
use Rattle.table_capture.specs.Words.{IsKept, Stream, carried, stream_alert, table_alerts}
use Rattle.table_capture.proofs.AlertLaws.{part_read, whole_read}
use Rattle.table_capture.proofs.OutcomeLaws.{unread, written_with}
use Rattle.table_capture.proofs.capture_job.write_table.Goals as goal

pub write_counted-requires-clause-kept : goal.write_counted-requires-clause-kept
write_counted-requires-clause-kept g c =
    let same = c.in-Ok.ensures.judge ∙ ap (λ (k : Keeping). carried k.plan) c.new-kept.ensures in
    let P : (Stream → Result Stream ScriptFault) → Type 0 = λ judge. All (IsKept judge) c.streams.result.now in
    subst P same c.streams.ensures.kept

pub returns-in-Ok-clause-written : goal.returns-in-Ok-clause-written
returns-in-Ok-clause-written g c =
    let table = rw c.new-kept.ensures at c.in-Ok.ensures.table in
    let counted = rw c.new-kept.ensures at c.in-Ok.ensures.counted in
    let written = rw c.streams.ensures.streams at c.write_counted.ensures in
    written_with c.args.plan _ c.in-Ok.counted _ _ _ _ table counted written

pub returns-clause-written : goal.returns-clause-written
returns-clause-written g c =
    let table = rw c.new-kept.ensures at c.in-Err.ensures.table in
    unread c.args.plan {T = Unit {0}} _ _ _ _ _ table (ap Err c.table_fault.ensures)

pub returns-in-Ok-clause-watched : goal.returns-in-Ok-clause-watched
returns-in-Ok-clause-watched g c =
    let alerts = rw c.new-kept.ensures at c.in-Ok.ensures.alerts in
    whole_read g.H.Watch.alerted (table_alerts stream_alert (carried c.args.plan)) _ c.in-Ok.counted _ c.args.watch.now _ alerts

pub returns-clause-watched : goal.returns-clause-watched
returns-clause-watched g c =
    let same = ap (λ (k : Keeping). table_alerts stream_alert (carried k.plan)) c.new-kept.ensures in
    part_read g.H.Watch.alerted _ (table_alerts stream_alert (carried c.args.plan)) same _ _ _ c.args.watch.now _ (ap Err c.table_fault.ensures) c.in-Err.ensures.alerts
