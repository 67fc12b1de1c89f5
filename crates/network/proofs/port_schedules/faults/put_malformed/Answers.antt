use Rattle.std.proofs.Common.{refl}
use Rattle.std.proofs.lemmas.Result.{err_from_is_err_and}
use Rattle.port_text.specs.AnswerLines.{tc_fault_line}
use Rattle.text.proofs.Fronts.{sent_none, sent_more, sent_exit, sent_last}
use Rattle.network.specs.ScheduleFaults.{malformed_text, numbered_line}
use Rattle.network.proofs.port_schedules.faults.put_malformed.Goals as goal

pub returns-in_err-put_parts : goal.returns-in_err-put_parts
returns-in_err-put_parts g c =
    let p = err_from_is_err_and c.from_residual.result c.from_residual.ensures.1 in
    let sent = rw c.from.ensures at c.in_err-put_parts.ensures in
    sent_exit _ (numbered_line c.args.line) (tc_fault_line c.args.fault) p.1 (sent_none _ (malformed_text c.args.line c.args.fault)) refl sent

pub returns : goal.returns
returns g c =
    let sent = rw c.from.ensures at c.in_ok-put_parts.ensures in
    let first = sent_more _ (numbered_line c.args.line) (tc_fault_line c.args.fault) (sent_none _ (malformed_text c.args.line c.args.fault)) refl sent in
    sent_last _ _ first c.put_tc_fault.ensures
