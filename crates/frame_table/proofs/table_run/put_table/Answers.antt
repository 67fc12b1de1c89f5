use Rattle.std.proofs.Common.{Err, ap, ◌∙◌}
use Rattle.std.proofs.lemmas.Result.{err_from_is_err_and}
use Rattle.frame_table.proofs.AlertLaws.{watched_before}
use Rattle.frame_table.proofs.RunLaws.{head_of, no_head_of}
use Rattle.frame_table.proofs.table_run.put_table.Goals as goal

pub returns-in_err-put_head-clause-table : goal.returns-in_err-put_head-clause-table
returns-in_err-put_head-clause-table g c = λ read is.
    let p = err_from_is_err_and c.from_residual.result c.from_residual.ensures.1 in
    no_head_of c.args.tabled.now.streams.now _ _ _ _ (p.1 ∙ ap Err p.2) c.in_err-put_head.ensures

pub returns-in_err-put_head-clause-alerts : goal.returns-in_err-put_head-clause-alerts
returns-in_err-put_head-clause-alerts g c = λ read is.
    let p = err_from_is_err_and c.from_residual.result c.from_residual.ensures.1 in
    watched_before g.H.Watch.alerted g.met.H.Watch.nothing _ _ c.args.watch.now _ (p.1 ∙ ap Err p.2)

pub returns-clause-table : goal.returns-clause-table
returns-clause-table g c = λ read is. head_of c.args.tabled.now.streams.now _ _ _ _ _ _ c.in_ok-put_head.ensures (c.put_lines.ensures.table read is)

pub returns-clause-alerts : goal.returns-clause-alerts
returns-clause-alerts g c = c.put_lines.ensures.alerts
