use Rattle.std.proofs.Common.{Some, refl}
use Rattle.std.proofs.lemmas.Result.{err_from_is_err_and}
use Rattle.text.proofs.Fronts.{sent_none, sent_more, sent_exit, sent_last}
use Rattle.stream_bounds.specs.BoundLines.{class_head, full_end, full_line}
use Rattle.stream_bounds.proofs.class_lines.put_full_class.Goals as goal

pub returns-in_err-put_head : goal.returns-in_err-put_head
returns-in_err-put_head g c =
    let p = err_from_is_err_and c.from_residual.result c.from_residual.ensures.1 in
    sent_exit _ (class_head c.args.class) (full_end (Some c.args.first)) p.1 (sent_none _ (full_line c.args.class c.args.first)) refl c.in_err-put_head.ensures

pub returns : goal.returns
returns g c =
    let head = sent_more _ (class_head c.args.class) (full_end (Some c.args.first)) (sent_none _ (full_line c.args.class c.args.first)) refl c.in_ok-put_head.ensures in
    sent_last _ _ head c.put_first_full.ensures
