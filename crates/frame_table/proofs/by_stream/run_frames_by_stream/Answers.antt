use Rattle.std.proofs.Common.{Err, ap, ◌∙◌}
use Rattle.std.proofs.lemmas.Result.{err_from_is_err_and}
use Rattle.frame_table.proofs.TableAlerts.{told_nothing, told_table}
use Rattle.frame_table.proofs.TableLaws.{of_table, unread_memory}
use Rattle.frame_table.proofs.by_stream.run_frames_by_stream.Goals as goal

pub returns-in_err-lines-clause-table : goal.returns-in_err-lines-clause-table
returns-in_err-lines-clause-table g c = λ read is.
    let p = err_from_is_err_and c.from_residual.result c.from_residual.ensures.1 in
    unread_memory read c.args.settings (g.R.Read.remaining c.args.reader) _ _ (p.1 ∙ ap Err p.2)

pub returns-in_err-lines-clause-watched : goal.returns-in_err-lines-clause-watched
returns-in_err-lines-clause-watched g c = λ read is.
    let p = err_from_is_err_and c.from_residual.result c.from_residual.ensures.1 in
    told_nothing g.H.Watch.alerted read c.args.settings g.met.H.Watch.nothing _ (g.S.Read.remaining c.args.table) (g.R.Read.remaining c.args.reader) c.args.watch.now (p.1 ∙ ap Err p.2)

pub returns-clause-table : goal.returns-clause-table
returns-clause-table g c = λ read is. of_table read c.args.settings (g.R.Read.remaining c.args.reader) c.put_by_stream.result _ _ _ _ c.in_ok-lines.ensures.left (c.put_by_stream.ensures.table read is)

pub returns-clause-watched : goal.returns-clause-watched
returns-clause-watched g c = λ read is.
    told_table g.H.Watch.alerted read c.args.settings c.put_by_stream.result (g.S.Read.remaining c.args.table) (g.R.Read.remaining c.args.reader) _ _ _ c.in_ok-lines.ensures.left (c.put_by_stream.ensures.alerts read is)
