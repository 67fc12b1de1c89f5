use Rattle.std.proofs.Common.{sym, ◌∙◌}
use Rattle.std.proofs.lemmas.Result.{err_from_is_err_and}
use Rattle.wire_time.specs.declared.TheConstants.{PRIORITIES}
use Rattle.port_text.specs.Reports.{class_text}
use Rattle.text.proofs.Fronts.{sent_more, sent_exit, sent_all}
use Rattle.port_text.proofs.Places.{text_at, nothing_from, get_in_front, none_in_front}
use Rattle.port_text.proofs.answer_text.reports.put_map.Goals as goal

pub returns-in_err-put_class : goal.returns-in_err-put_class
returns-in_err-put_class g c =
    let p = err_from_is_err_and c.from_residual.result c.from_residual.ensures.1 in
    let at = get_in_front PRIORITIES c.args.map.now.classes c.loop-priority.priority c.in-Some.class c.loop-priority-test.true (sym c.in-Some.ensures.class) in
    sent_exit _ _ _ p.1 c.loop-priority.invariant (text_at class_text _ c.loop-priority.priority _ at) c.in_err-put_class.ensures

pub loop-priority-preserved : goal.loop-priority-preserved
loop-priority-preserved g c =
    let at = get_in_front PRIORITIES c.args.map.now.classes c.loop-priority.priority c.in-Some.class c.loop-priority-test.true (sym c.in-Some.ensures.class) in
    sent_more _ _ _ c.loop-priority.invariant (text_at class_text _ c.loop-priority.priority _ at) c.in_ok-put_class.ensures

pub returns-in_default : goal.returns-in_default
returns-in_default g c =
    let none = none_in_front PRIORITIES c.args.map.now.classes c.loop-priority.priority (sym c.class_of.ensures.class ∙ c.in_default.is) in
    sent_all c.loop-priority.invariant (nothing_from class_text _ c.loop-priority.priority none)
