use Rattle.std.proofs.Common.{refl}
use Rattle.std.proofs.lemmas.Result.{err_from_is_err_and}
use Rattle.port_text.specs.AnswerLines.{sent_text, dropped_text}
use Rattle.text.proofs.Fronts.{sent_none, sent_more, sent_exit, sent_last}
use Rattle.port_text.proofs.answer_text.lines.put_counters.Goals as goal

pub returns-in_err-put_line : goal.returns-in_err-put_line
returns-in_err-put_line g c =
    let p = err_from_is_err_and c.from_residual.result c.from_residual.ensures.1 in
    sent_exit _ (sent_text c.args.class c.args.counters.now) _ p.1 (sent_none _ _) refl c.in_err-put_line.ensures

pub returns-in_err-put_line-2 : goal.returns-in_err-put_line-2
returns-in_err-put_line-2 g c =
    let counters = c.args.counters.now in
    let failed = c.from_residual-in_err-put_line-2 in
    let p = err_from_is_err_and failed.result failed.ensures.1 in
    let sent = sent_more _ (sent_text c.args.class counters) _ (sent_none _ _) refl c.in_ok-put_line.ensures in
    sent_exit _ (dropped_text counters) _ p.1 sent refl c.in_err-put_line-2.ensures

pub returns : goal.returns
returns g c =
    let counters = c.args.counters.now in
    let sent = sent_more _ (sent_text c.args.class counters) _ (sent_none _ _) refl c.in_ok-put_line.ensures in
    let dropped = sent_more _ (dropped_text counters) _ sent refl c.in_ok-put_line-2.ensures in
    sent_last _ _ dropped c.put_line-3.ensures
