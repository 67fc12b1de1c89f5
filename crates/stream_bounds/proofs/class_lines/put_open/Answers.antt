use Rattle.std.proofs.Common.{codes, refl}
use Rattle.std.proofs.lemmas.Result.{err_from_is_err_and}
use Rattle.text.proofs.Fronts.{sent_none, sent_more, sent_exit, sent_last}
use Rattle.stream_bounds.specs.BoundLines.{class_head, flagged_line, open_line}
use Rattle.stream_bounds.proofs.class_lines.put_open.Goals as goal

pub returns-in_err-put_head : goal.returns-in_err-put_head
returns-in_err-put_head g c =
    let p = err_from_is_err_and c.from_residual.result c.from_residual.ensures.1 in
    let rest = flagged_line (codes " open to") c.args.to.now in
    sent_exit _ (class_head c.args.class) rest p.1 (sent_none _ (open_line c.args.class c.args.to.now)) refl c.in_err-put_head.ensures

pub returns : goal.returns
returns g c =
    let rest = flagged_line (codes " open to") c.args.to.now in
    let first = sent_more _ (class_head c.args.class) rest (sent_none _ (open_line c.args.class c.args.to.now)) refl c.in_ok-put_head.ensures in
    sent_last _ _ first c.put_flagged.ensures
