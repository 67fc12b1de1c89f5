use Rattle.std.proofs.Common.{refl, ◌++◌}
use Rattle.std.proofs.lemmas.Result.{err_from_is_err_and}
use Rattle.text.proofs.Fronts.{sent_none, sent_more, sent_exit, sent_last}
use Rattle.stream_bounds.specs.BoundLines.{slack_end, slack_head}
use Rattle.stream_bounds.proofs.stream_lines.put_slack.Goals as goal

pub returns-in_err-put_slack_head : goal.returns-in_err-put_slack_head
returns-in_err-put_slack_head g c =
    let p = err_from_is_err_and c.from_residual.result c.from_residual.ensures.1 in
    sent_exit _ (slack_head c.args.id) (slack_end c.args.slack) p.1 (sent_none _ (slack_head c.args.id ++ slack_end c.args.slack)) refl c.in_err-put_slack_head.ensures

pub returns : goal.returns
returns g c =
    sent_last _ _ (sent_more _ (slack_head c.args.id) (slack_end c.args.slack) (sent_none _ (slack_head c.args.id ++ slack_end c.args.slack)) refl c.in_ok-put_slack_head.ensures) c.put_slack_end.ensures
