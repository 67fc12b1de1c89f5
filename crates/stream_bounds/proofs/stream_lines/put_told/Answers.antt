use Rattle.std.proofs.Common.{refl}
use Rattle.std.proofs.lemmas.Result.{err_from_is_err_and}
use Rattle.text.proofs.Fronts.{sent_none, sent_more, sent_exit, sent_last}
use Rattle.stream_bounds.specs.BoundLines.{bound_line, extra_lines, stream_text}
use Rattle.stream_bounds.proofs.stream_lines.put_told.Goals as goal

pub returns-in_err-put_stream : goal.returns-in_err-put_stream
returns-in_err-put_stream g c =
    let p = err_from_is_err_and c.from_residual.result c.from_residual.ensures.1 in
    let x = c.args.stream.now in
    let first = bound_line c.args.needs x c.args.told.delay in
    let later = extra_lines c.args.asked x c.args.told.extra in
    sent_exit _ first later p.1 (sent_none _ (stream_text c.args.asked c.args.needs x c.args.told.delay c.args.told.extra)) refl c.in_err-put_stream.ensures

pub returns : goal.returns
returns g c =
    let x = c.args.stream.now in
    let first = bound_line c.args.needs x c.args.told.delay in
    let later = extra_lines c.args.asked x c.args.told.extra in
    sent_last _ _ (sent_more _ first later (sent_none _ (stream_text c.args.asked c.args.needs x c.args.told.delay c.args.told.extra)) refl c.in_ok-put_stream.ensures) c.put_extra.ensures
