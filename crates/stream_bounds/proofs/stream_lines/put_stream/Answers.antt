use Rattle.std.proofs.Common.{refl, ◌++◌}
use Rattle.std.proofs.lemmas.Result.{err_from_is_err_and}
use Rattle.text.proofs.Fronts.{sent_none, sent_more, sent_exit, sent_last}
use Rattle.stream_bounds.specs.BoundLines.{bound_head, bound_line, deadline_end, delay_text}
use Rattle.stream_bounds.proofs.stream_lines.put_stream.Goals as goal

pub returns-in_err-put_head : goal.returns-in_err-put_head
returns-in_err-put_head g c =
    let p = err_from_is_err_and c.from_residual.result c.from_residual.ensures.1 in
    let x = c.args.stream.now in
    sent_exit _ (bound_head x.first_id) (delay_text c.args.needs c.args.delay ++ deadline_end c.args.needs c.args.delay x.deadline) p.1 (sent_none _ (bound_line c.args.needs x c.args.delay)) refl c.in_err-put_head.ensures

pub returns-in_err-put_delay : goal.returns-in_err-put_delay
returns-in_err-put_delay g c =
    let p = err_from_is_err_and c.from_residual-in_err-put_delay.result c.from_residual-in_err-put_delay.ensures.1 in
    let x = c.args.stream.now in
    let head = sent_more _ (bound_head x.first_id) (delay_text c.args.needs c.args.delay ++ deadline_end c.args.needs c.args.delay x.deadline) (sent_none _ (bound_line c.args.needs x c.args.delay)) refl c.in_ok-put_head.ensures in
    sent_exit _ (delay_text c.args.needs c.args.delay) (deadline_end c.args.needs c.args.delay x.deadline) p.1 head refl c.in_err-put_delay.ensures

pub returns : goal.returns
returns g c =
    let x = c.args.stream.now in
    let head = sent_more _ (bound_head x.first_id) (delay_text c.args.needs c.args.delay ++ deadline_end c.args.needs c.args.delay x.deadline) (sent_none _ (bound_line c.args.needs x c.args.delay)) refl c.in_ok-put_head.ensures in
    sent_last _ _ (sent_more _ (delay_text c.args.needs c.args.delay) (deadline_end c.args.needs c.args.delay x.deadline) head refl c.in_ok-put_delay.ensures) c.put_end.ensures
