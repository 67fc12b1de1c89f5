use Rattle.std.proofs.Common.{codes, refl}
use Rattle.std.proofs.lemmas.Result.{err_from_is_err_and}
use Rattle.text.proofs.Fronts.{sent_none, sent_more, sent_exit, sent_last}
use Rattle.script.specs.Texts.{line_text}
use Rattle.stream_bounds.specs.Faults.{first_text, schedules_text}
use Rattle.stream_bounds.proofs.faults.put_schedules.Goals as goal

pub returns-in_err-put_first : goal.returns-in_err-put_first
returns-in_err-put_first g c =
    let p = err_from_is_err_and c.from_residual.result c.from_residual.ensures.1 in
    sent_exit _ (first_text c.args.found) (line_text (codes "taprio_port: script line ") c.args.line c.args.fault) p.1 (sent_none _ (schedules_text c.args.found c.args.line c.args.fault)) refl c.in_err-put_first.ensures

pub returns : goal.returns
returns g c =
    let first = sent_more _ (first_text c.args.found) (line_text (codes "taprio_port: script line ") c.args.line c.args.fault) (sent_none _ (schedules_text c.args.found c.args.line c.args.fault)) refl c.in_ok-put_first.ensures in
    sent_last _ _ first c.put_line_fault.ensures
