use Rattle.std.proofs.Common.{◌≡◌, Result, sym, ap, ◌∙◌, subst}
use Rattle.frame_table.specs.Words.{Command, TcFault, responses_to, settled, tc_request}
use Rattle.script.specs.Alerts.{alerts_of}
use Rattle.script.specs.Requests.{lent}
use Rattle.script.specs.Told.{told_to}
use Rattle.script.proofs.AlertLaws.{alerts_same, command-alerts}
use Rattle.script.proofs.StartsLaws.{settled-sound}
use Rattle.frame_table.proofs.table_run.take_tc.Goals as goal

pub returns-in-Ok-clause-port : goal.returns-in-Ok-clause-port
returns-in-Ok-clause-port g c = λ read is.
    let i = c.install-answer.ensures in
    let q = c.install-answer.new.self.port in
    subst (λ (r : Result Command TcFault). q ≡ settled (responses_to (tc_request r) c.args.port.now.port).1) (sym c.in-Ok.is ∙ c.read_tc_into.ensures read is) (sym (settled-sound q i.sound) ∙ ap settled i.port)

pub returns-in-Err-clause-port : goal.returns-in-Err-clause-port
returns-in-Err-clause-port g c = λ read is.
    let p = c.args.port.now.port in
    subst (λ (r : Result Command TcFault). p ≡ settled (responses_to (tc_request r) p).1) (sym c.in-Err.is ∙ c.read_tc_into.ensures read is) (sym (settled-sound p c.now-now.ensures.sound))

pub returns-in-Ok-clause-alerts : goal.returns-in-Ok-clause-alerts
returns-in-Ok-clause-alerts g c = λ read is.
    let p = c.args.port.now.port in
    let told = alerts_same g.H.Watch.alerted _ _ c.args.watch.now c.tell_command.new.watch (command-alerts p (lent c.in-Ok.command) c.install-answer.result c.install-answer.ensures.answer) c.tell_command.ensures in
    subst (λ (r : Result Command TcFault). g.H.Watch.alerted (alerts_of (told_to (tc_request r) p)) c.args.watch.now c.tell_command.new.watch) (sym c.in-Ok.is ∙ c.read_tc_into.ensures read is) told

pub returns-in-Err-clause-alerts : goal.returns-in-Err-clause-alerts
returns-in-Err-clause-alerts g c = λ read is.
    let p = c.args.port.now.port in
    subst (λ (r : Result Command TcFault). g.H.Watch.alerted (alerts_of (told_to (tc_request r) p)) c.args.watch.now c.command_failed.new.self) (sym c.in-Err.is ∙ c.read_tc_into.ensures read is) c.command_failed.ensures
