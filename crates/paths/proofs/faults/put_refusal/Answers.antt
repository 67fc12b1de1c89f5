use Rattle.std.proofs.Common.{refl}
use Rattle.std.proofs.lemmas.Result.{err_from_is_err_and}
use Rattle.text.proofs.Fronts.{sent_exit, sent_last, sent_more, sent_none}
use Rattle.paths.specs.Faults.{refusal_head, refusal_text}
use Rattle.paths.proofs.faults.put_refusal.Goals as goal

pub returns-in_err-put_refusal_head : goal.returns-in_err-put_refusal_head
returns-in_err-put_refusal_head g c =
    let p = err_from_is_err_and c.from_residual.result c.from_residual.ensures.1 in
    sent_exit _ (refusal_head c.args.line) _ p.1 (sent_none _ (refusal_text c.args.line c.args.why)) refl c.in_err-put_refusal_head.ensures

pub returns : goal.returns
returns g c =
    let s1 = sent_more _ (refusal_head c.args.line) _ (sent_none _ (refusal_text c.args.line c.args.why)) refl c.in_ok-put_refusal_head.ensures in
    sent_last _ _ s1 c.put_refused.ensures
