use Rattle.std.proofs.Common.{refl}
use Rattle.std.proofs.lemmas.Result.{err_from_is_err_and}
use Rattle.text.proofs.Fronts.{sent_none, sent_more, sent_exit, sent_last}
use Rattle.traffic.proofs.merge.put_at.Goals as goal

pub returns-in_err-write_frames_before-clause-lines : goal.returns-in_err-write_frames_before-clause-lines
returns-in_err-write_frames_before-clause-lines g c =
    let p = err_from_is_err_and c.from_residual.result c.from_residual.ensures.1 in
    sent_exit _ _ _ p.1 (sent_none _ _) refl c.in_err-write_frames_before.ensures.lines

pub returns-clause-lines : goal.returns-clause-lines
returns-clause-lines g c = sent_last _ _ (sent_more _ _ _ (sent_none _ _) refl c.in_ok-write_frames_before.ensures.lines) c.put_line.ensures
