use Rattle.std.proofs.Common.{sym}
use Rattle.std.proofs.lemmas.Result.{err_from_is_err_and}
use Rattle.port_text.specs.Reports.{range_text}
use Rattle.text.proofs.Fronts.{sent_more, sent_exit}
use Rattle.port_text.proofs.Places.{text_at}
use Rattle.port_text.proofs.answer_text.reports.put_ranges.Goals as goal

pub returns-in_err-put_range : goal.returns-in_err-put_range
returns-in_err-put_range g c =
    let p = err_from_is_err_and c.from_residual.result c.from_residual.ensures.1 in
    sent_exit _ _ _ p.1 c.loop-class.invariant (text_at range_text _ c.loop-class.class _ (sym c.in-Some.ensures)) c.in_err-put_range.ensures

pub loop-class-preserved : goal.loop-class-preserved
loop-class-preserved g c =
    sent_more _ _ _ c.loop-class.invariant (text_at range_text _ c.loop-class.class _ (sym c.in-Some.ensures)) c.in_ok-put_range.ensures
