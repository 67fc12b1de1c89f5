use Rattle.std.proofs.Common.{refl}
use Rattle.std.proofs.lemmas.Result.{err_from_is_err_and}
use Rattle.text.proofs.Fronts.{sent_exit, sent_last, sent_more, sent_none}
use Rattle.compare.specs.Lines.{compared_lines, compared_text, summary_line}
use Rattle.compare.proofs.lines.put_compared.Goals as goal

pub returns-in_err-put_lines : goal.returns-in_err-put_lines
returns-in_err-put_lines g c =
    let p = err_from_is_err_and c.from_residual.result c.from_residual.ensures.1 in
    sent_exit _ (compared_lines c.args.all.now) (summary_line c.args.all.now) p.1 (sent_none _ (compared_text c.args.all.now)) refl c.in_err-put_lines.ensures

pub returns : goal.returns
returns g c =
    sent_last c.put_summary.result _ (sent_more _ (compared_lines c.args.all.now) (summary_line c.args.all.now) (sent_none _ (compared_text c.args.all.now)) refl c.in_ok-put_lines.ensures) c.put_summary.ensures
