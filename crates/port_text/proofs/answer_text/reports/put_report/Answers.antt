use Rattle.std.proofs.Common.{refl, codes}
use Rattle.std.proofs.lemmas.Result.{err_from_is_err_and}
use Rattle.port_text.specs.Reports.{now_line, classes_line, schedule_line}
use Rattle.text.proofs.Fronts.{sent_none, sent_more, sent_exit, sent_last}
use Rattle.port_text.proofs.answer_text.reports.put_report.Goals as goal

pub returns-in_err-put_line : goal.returns-in_err-put_line
returns-in_err-put_line g c =
    let p = err_from_is_err_and c.from_residual.result c.from_residual.ensures.1 in
    sent_exit _ (now_line c.args.report.now) _ p.1 (sent_none _ _) refl c.in_err-put_line.ensures

pub returns-in_err-put_classes : goal.returns-in_err-put_classes
returns-in_err-put_classes g c =
    let report = c.args.report.now in
    let failed = c.from_residual-in_err-put_classes in
    let p = err_from_is_err_and failed.result failed.ensures.1 in
    let now = sent_more _ (now_line report) _ (sent_none _ _) refl c.in_ok-put_line.ensures in
    sent_exit _ (classes_line report.classes) _ p.1 now refl c.in_err-put_classes.ensures

pub returns-in_err-put_schedule : goal.returns-in_err-put_schedule
returns-in_err-put_schedule g c =
    let report = c.args.report.now in
    let failed = c.from_residual-in_err-put_schedule in
    let p = err_from_is_err_and failed.result failed.ensures.1 in
    let now = sent_more _ (now_line report) _ (sent_none _ _) refl c.in_ok-put_line.ensures in
    let classes = sent_more _ (classes_line report.classes) _ now refl c.in_ok-put_classes.ensures in
    sent_exit _ (schedule_line (codes "in-force") report.in_force) _ p.1 classes refl c.in_err-put_schedule.ensures

pub returns-in_err-put_schedule-2 : goal.returns-in_err-put_schedule-2
returns-in_err-put_schedule-2 g c =
    let report = c.args.report.now in
    let failed = c.from_residual-in_err-put_schedule-2 in
    let p = err_from_is_err_and failed.result failed.ensures.1 in
    let now = sent_more _ (now_line report) _ (sent_none _ _) refl c.in_ok-put_line.ensures in
    let classes = sent_more _ (classes_line report.classes) _ now refl c.in_ok-put_classes.ensures in
    let in_force = schedule_line (codes "in-force") report.in_force in
    let first = sent_more _ in_force _ classes refl c.in_ok-put_schedule.ensures in
    sent_exit _ (schedule_line (codes "pending") report.pending) _ p.1 first refl c.in_err-put_schedule-2.ensures

pub returns : goal.returns
returns g c =
    let report = c.args.report.now in
    let now = sent_more _ (now_line report) _ (sent_none _ _) refl c.in_ok-put_line.ensures in
    let classes = sent_more _ (classes_line report.classes) _ now refl c.in_ok-put_classes.ensures in
    let in_force = schedule_line (codes "in-force") report.in_force in
    let first = sent_more _ in_force _ classes refl c.in_ok-put_schedule.ensures in
    let pending = schedule_line (codes "pending") report.pending in
    sent_last _ _ (sent_more _ pending _ first refl c.in_ok-put_schedule-2.ensures) c.put_schedule-3.ensures
