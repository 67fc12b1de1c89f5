use Rattle.std.proofs.Common.{refl}
use Rattle.std.proofs.lemmas.Result.{err_from_is_err_and}
use Rattle.text.proofs.Fronts.{sent_none, sent_more, sent_exit, sent_last}
use Rattle.schedule_check.specs.Words.{window_line}
use Rattle.schedule_check.proofs.window_lines.put_open.Goals as goal

pub returns-in_err-put_window : goal.returns-in_err-put_window
returns-in_err-put_window g c =
    let p = err_from_is_err_and c.from_residual.result c.from_residual.ensures.1 in
    sent_exit _ (window_line c.args.class c.args.window.now) _ p.1 (sent_none _ _) refl c.in_err-put_window.ensures

pub returns : goal.returns
returns g c = sent_last _ _ (sent_more _ (window_line c.args.class c.args.window.now) _ (sent_none _ _) refl c.in_ok-put_window.ensures) c.put_waits.ensures
