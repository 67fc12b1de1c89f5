use Rattle.std.proofs.Common.{refl}
use Rattle.std.proofs.lemmas.Result.{err_from_is_err_and}
use Rattle.text.proofs.Fronts.{sent_none, sent_more, sent_exit, sent_last}
use Rattle.stream_bounds.specs.BoundLines.{extra_lines, slack_line, why_line}
use Rattle.stream_bounds.proofs.stream_lines.put_extra.Goals as goal

pub returns-in_err-put_asked_slack : goal.returns-in_err-put_asked_slack
returns-in_err-put_asked_slack g c =
    let p = err_from_is_err_and c.from_residual.result c.from_residual.ensures.1 in
    let x = c.args.stream.now in
    let first = slack_line c.args.asked x.first_id x.deadline c.args.extra.slack in
    let later = why_line x.first_id c.args.extra.shares in
    sent_exit _ first later p.1 (sent_none _ (extra_lines c.args.asked x c.args.extra)) refl c.in_err-put_asked_slack.ensures

pub returns : goal.returns
returns g c =
    let x = c.args.stream.now in
    let first = slack_line c.args.asked x.first_id x.deadline c.args.extra.slack in
    let later = why_line x.first_id c.args.extra.shares in
    sent_last _ _ (sent_more _ first later (sent_none _ (extra_lines c.args.asked x c.args.extra)) refl c.in_ok-put_asked_slack.ensures) c.put_why.ensures
