use Rattle.std.proofs.Common.{◌≡◌, Option, Ok, Err, sym, subst}
use Rattle.abstract_port.specs.AbstractPort.{plan_asked}
use Rattle.abstract_port.specs.declared.Refused.{Refused}
use Rattle.gates.specs.Gate.{ok_unless, plan_fault}
use Rattle.schedule_check.proofs.ChangeLaws.{made_without_fault}
use Rattle.stream_bounds.specs.TableRead.{TellsChange}
use Rattle.stream_bounds.proofs.RefusalLaws.{not_refused, refused_for}
use Rattle.stream_bounds.proofs.bounds_report.put_fitting.Goals as goal

pub returns-in-Ok : goal.returns-in-Ok
returns-in-Ok g c =
    let s = c.args.settings.now in
    let ch = c.args.change.now in
    let made : ok_unless (plan_fault s.port.rate (plan_asked ch)) (plan_asked ch) ≡ Ok c.in-Ok.schedule = cc in
    let none = made_without_fault (plan_fault s.port.rate (plan_asked ch)) (plan_asked ch) c.in-Ok.schedule made in
    subst (λ (o : Option Refused). TellsChange c.put_schedule.result c.args.line o s ch c.args.streams.now (g.W.Write.contents c.args.writer.now) (g.W.Write.contents c.put_schedule.new.writer)) (sym (not_refused s ch c.requires.fitting none.0)) c.put_schedule.ensures

pub returns-in-Err : goal.returns-in-Err
returns-in-Err g c =
    let s = c.args.settings.now in
    let ch = c.args.change.now in
    let made : ok_unless (plan_fault s.port.rate (plan_asked ch)) (plan_asked ch) ≡ Err c.in-Err.fault = cc in
    subst (λ (o : Option Refused). TellsChange c.put_refusal.result c.args.line o s ch c.args.streams.now (g.W.Write.contents c.args.writer.now) (g.W.Write.contents c.put_refusal.new.writer)) (sym (refused_for s ch c.in-Err.fault c.requires.fitting made)) (c.put_refusal.ensures s ch c.args.streams.now)
