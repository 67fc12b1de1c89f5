use Rattle.std.proofs.Common.{Err, ap, ◌∙◌}
use Rattle.std.proofs.lemmas.Result.{err_from_is_err_and}
use Rattle.traffic.proofs.OutcomeLaws.{of_inputs, refused}
use Rattle.traffic.proofs.streams.write_streams.Goals as goal

pub returns-in_err-table : goal.returns-in_err-table
returns-in_err-table g c =
    let p = err_from_is_err_and c.from_residual.result c.from_residual.ensures.1 in
    refused c.args.plan {T = Unit {0}} _ _ _ (p.1 ∙ ap Err p.2)

pub returns-in_err-script : goal.returns-in_err-script
returns-in_err-script g c =
    let p = err_from_is_err_and c.from_residual-in_err-script.result c.from_residual-in_err-script.ensures.1 in
    refused c.args.plan {T = Unit {0}} _ _ _ (p.1 ∙ ap Err p.2)

pub returns : goal.returns
returns g c = of_inputs c.args.plan _ _ _ (g.R.Read.remaining c.args.table) (g.S.Read.remaining c.args.script) _ _ c.in_ok-table.ensures.left c.in_ok-script.ensures.left c.write_table.ensures
