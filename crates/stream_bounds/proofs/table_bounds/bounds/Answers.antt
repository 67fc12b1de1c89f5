use Rattle.std.proofs.Common.{Err, ap, ◌∙◌}
use Rattle.std.proofs.lemmas.Result.{err_from_is_err_and}
use Rattle.stream_bounds.proofs.CommandLaws.{of_inputs, refused}
use Rattle.stream_bounds.proofs.table_bounds.bounds.Goals as goal

pub returns-in_err-table : goal.returns-in_err-table
returns-in_err-table g c = λ read is.
    let p = err_from_is_err_and c.from_residual.result c.from_residual.ensures.1 in
    refused read c.args.settings _ _ _ (p.1 ∙ ap Err p.2)

pub returns-in_err-schedules : goal.returns-in_err-schedules
returns-in_err-schedules g c = λ read is.
    let p = err_from_is_err_and c.from_residual-in_err-schedules.result c.from_residual-in_err-schedules.ensures.1 in
    refused read c.args.settings _ _ _ (p.1 ∙ ap Err p.2)

pub returns : goal.returns
returns g c = λ read is. of_inputs read c.args.settings _ _ (g.R.Read.remaining c.args.table) (g.S.Read.remaining c.args.schedules) _ _ c.in_ok-table.ensures.left c.in_ok-schedules.ensures.left (c.bound_table.ensures read is)
