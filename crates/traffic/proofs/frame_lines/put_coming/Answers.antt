use Rattle.std.proofs.Common.{refl}
use Rattle.std.proofs.lemmas.Result.{err_from_is_err_and}
use Rattle.text.proofs.Fronts.{sent_none, sent_more, sent_exit, sent_last}
use Rattle.traffic.proofs.frame_lines.put_coming.Goals as goal

pub returns-in_err-put_clock_to : goal.returns-in_err-put_clock_to
returns-in_err-put_clock_to g c =
    let p = err_from_is_err_and c.from_residual.result c.from_residual.ensures.1 in
    sent_exit _ _ _ p.1 (sent_none _ _) refl c.in_err-put_clock_to.ensures

pub returns : goal.returns
returns g c = sent_last _ _ (sent_more _ _ _ (sent_none _ _) refl c.in_ok-put_clock_to.ensures) c.put_frame.ensures
