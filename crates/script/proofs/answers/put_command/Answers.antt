use Rattle.std.proofs.Common.{arith, Result, refl, sym, subst}
use Rattle.script.specs.Alerts.{alerts_of}
use Rattle.script.specs.Told.{told_to}
use Rattle.script.specs.Words.{Command, IsAnswered, tc_request, TcFault}
use Rattle.script.proofs.GivenLaws.{always, fault_written}
use Rattle.script.proofs.StartsLaws.{settled-sound}
use Rattle.script.proofs.answers.put_command.Goals as goal

pub returns-in-Ok-clause-answered : goal.returns-in-Ok-clause-answered
returns-in-Ok-clause-answered g c =
    let a = c.put_install.ensures.answered in
    subst (λ (r : Result Command TcFault). IsAnswered (tc_request r) c.put_install.result (g.W.Write.contents c.args.writer.now) (g.W.Write.contents c.put_install.new.writer) c.args.port.now c.put_install.new.port c.args.summary.now c.put_install.new.summary)
    (sym c.in-Ok.is) (record { text = a.text; port = a.port; seen = a.seen; sound = a.sound; few = a.few })

pub returns-in-Err-clause-answered : goal.returns-in-Err-clause-answered
returns-in-Err-clause-answered g c =
    let p = c.args.port.now.port in
    let r = c.put_tc_fault.result in
    subst (λ (read : Result Command TcFault). IsAnswered (tc_request read) r (g.W.Write.contents c.args.writer.now) (g.W.Write.contents c.put_tc_fault.new.writer) c.args.port.now c.args.port.now c.args.summary.now c.args.summary.now)
    (sym c.in-Err.is)
    (record {
      text = fault_written r _ _ c.in-Err.fault p c.put_tc_fault.ensures;
      port = always r (sym (settled-sound p c.now-now.ensures.sound));
      seen = always r refl;
      sound = always r c.now-now.ensures.sound;
      few = omega arith;
    })

pub returns-in-Ok-clause-alerts : goal.returns-in-Ok-clause-alerts
returns-in-Ok-clause-alerts g c =
    subst (λ (r : Result Command TcFault). g.H.Watch.alerted (alerts_of (told_to (tc_request r) c.args.port.now.port)) c.args.watch.now c.put_install.new.watch) (sym c.in-Ok.is) c.put_install.ensures.alerts

pub returns-in-Err-clause-alerts : goal.returns-in-Err-clause-alerts
returns-in-Err-clause-alerts g c =
    subst (λ (r : Result Command TcFault). g.H.Watch.alerted (alerts_of (told_to (tc_request r) c.args.port.now.port)) c.args.watch.now c.command_failed.new.self) (sym c.in-Err.is) c.command_failed.ensures
