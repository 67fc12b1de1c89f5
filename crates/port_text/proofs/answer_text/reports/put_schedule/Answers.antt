use Rattle.std.proofs.Common.{refl}
use Rattle.std.proofs.lemmas.Result.{err_from_is_err_and}
use Rattle.text.proofs.Fronts.{sent_none, sent_more, sent_exit, sent_last}
use Rattle.port_text.proofs.answer_text.reports.put_schedule.Goals as goal

pub returns-in_err-put-in-None : goal.returns-in_err-put-in-None
returns-in_err-put-in-None g c =
    let p = err_from_is_err_and c.from_residual.result c.from_residual.ensures.1 in
    rw c.in-None.is (sent_exit _ c.args.place.now _ p.1 (sent_none _ _) refl c.in_err-put-in-None.ensures)

pub returns-in_ok-put-in-None : goal.returns-in_ok-put-in-None
returns-in_ok-put-in-None g c =
    let place = sent_more _ c.args.place.now _ (sent_none _ _) refl c.in_ok-put-in-None.ensures in
    rw c.in-None.is (sent_last _ _ place c.put-in-None.ensures)
