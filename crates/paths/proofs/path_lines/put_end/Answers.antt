use Rattle.std.proofs.Common.{refl}
use Rattle.std.proofs.lemmas.Result.{err_from_is_err_and}
use Rattle.text.proofs.Fronts.{sent_exit, sent_last, sent_more, sent_none}
use Rattle.paths.specs.PathLines.{end_head, end_line}
use Rattle.paths.proofs.path_lines.put_end.Goals as goal

pub returns-in_err-put_end_head : goal.returns-in_err-put_end_head
returns-in_err-put_end_head g c =
    let p = err_from_is_err_and c.from_residual.result c.from_residual.ensures.1 in
    sent_exit _ (end_head c.args.id c.args.end) _ p.1 (sent_none _ (end_line c.args.id c.args.end c.args.reached c.args.deadline)) refl c.in_err-put_end_head.ensures

pub returns : goal.returns
returns g c =
    let s1 = sent_more _ (end_head c.args.id c.args.end) _ (sent_none _ (end_line c.args.id c.args.end c.args.reached c.args.deadline)) refl c.in_ok-put_end_head.ensures in
    sent_last _ _ s1 c.put_deadline.ensures
