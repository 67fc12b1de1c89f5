use Rattle.std.proofs.Common.{Ok, refl, sym, ap, ◌∙◌, subst}
use Rattle.job.specs.declared.halt.Halt.{Halt}
use Rattle.script.specs.Alerts.{Alerting}
use Rattle.script.proofs.AlertLaws.{alerts_same}
use Rattle.script.proofs.StartsLaws.{settled-sound}
use Rattle.frame_table.specs.Words.{Asks, BadLine, Clock, Event, IsAfter, Runs, request_alerts, rows_told, run_of_halt, settled}
use Rattle.frame_table.proofs.AlertLaws.{alerting_same, told_nil}
use Rattle.frame_table.proofs.AskedLaws.{clock-alerts, count-alerts, install-alerts}
use Rattle.frame_table.proofs.HaltLaws.{halted_after, halted_alerts, halted_text}
use Rattle.frame_table.proofs.table_run.take_event.Goals as goal

pub returns-in-Arrive-clause-alerts : goal.returns-in-Arrive-clause-alerts
returns-in-Arrive-clause-alerts g c =
    subst (λ (e : Event). Alerting g.H.Watch.alerted (request_alerts c.args.streams.now (Asks e) c.args.port.now.port c.args.arrivals.now) c.take_frame.result c.args.watch.now c.take_frame.new.watch) (sym c.in-Arrive.is) c.take_frame.ensures.alerts

pub returns-in-Clock-clause-text : goal.returns-in-Clock-clause-text
returns-in-Clock-clause-text g c =
    subst (λ (e : Event). Runs {I = BadLine} (run_of_halt c.halted.result) (g.W.Write.contents c.args.writer.now) (g.W.Write.contents c.take_clock.new.writer) (rows_told c.args.streams.now e c.args.port.now.port c.args.arrivals.now)) (sym c.in-Clock.is)
    (halted_text c.take_clock.result c.halted.result _ _ _ c.halted.ensures c.take_clock.ensures.text)

pub returns-in-Clock-clause-alerts : goal.returns-in-Clock-clause-alerts
returns-in-Clock-clause-alerts g c =
    let same = clock-alerts c.args.streams.now c.args.port.now.port c.args.arrivals.now c.in-Clock.until in
    subst (λ (e : Event). Alerting g.H.Watch.alerted (request_alerts c.args.streams.now (Asks e) c.args.port.now.port c.args.arrivals.now) c.halted.result c.args.watch.now c.take_clock.new.watch) (sym c.in-Clock.is)
    (halted_alerts g.H.Watch.alerted _ c.take_clock.result c.halted.result c.args.watch.now c.take_clock.new.watch c.halted.ensures (alerting_same g.H.Watch.alerted _ _ c.take_clock.result c.args.watch.now c.take_clock.new.watch same c.take_clock.ensures.alerts))

pub returns-in-Clock-clause-after : goal.returns-in-Clock-clause-after
returns-in-Clock-clause-after g c =
    subst (λ (e : Event). IsAfter e c.halted.result c.args.port.now.port c.args.arrivals.now c.take_clock.new.port.port c.take_clock.new.arrivals) (sym c.in-Clock.is)
    (halted_after c.take_clock.result c.halted.result (Clock c.in-Clock.until) c.args.port.now.port c.args.arrivals.now c.take_clock.new.port.port c.take_clock.new.arrivals c.halted.ensures c.take_clock.ensures.after)

pub returns-in-Install-clause-after : goal.returns-in-Install-clause-after
returns-in-Install-clause-after g c =
    let i = c.install-answer.ensures in
    let q = c.install-answer.new.self.port in
    subst (λ (e : Event). IsAfter {T = Unit {0}} {E = Halt} e (Ok tt) c.args.port.now.port c.args.arrivals.now q c.args.arrivals.now) (sym c.in-Install.is)
    (record { port = sym (settled-sound q i.sound) ∙ ap settled i.port; waiting = refl; sound = i.sound })

pub returns-in-Install-clause-alerts : goal.returns-in-Install-clause-alerts
returns-in-Install-clause-alerts g c =
    let same = install-alerts c.args.streams.now c.args.port.now.port c.args.arrivals.now c.in-Install.command c.install-answer.result c.install-answer.ensures.answer in
    subst (λ (e : Event). g.H.Watch.alerted (request_alerts c.args.streams.now (Asks e) c.args.port.now.port c.args.arrivals.now) c.args.watch.now c.tell_command.new.watch) (sym c.in-Install.is)
    (alerts_same g.H.Watch.alerted _ _ c.args.watch.now c.tell_command.new.watch same c.tell_command.ensures)

pub returns-in-Count-clause-alerts : goal.returns-in-Count-clause-alerts
returns-in-Count-clause-alerts g c =
    subst (λ (e : Event). g.H.Watch.alerted (request_alerts c.args.streams.now (Asks e) c.args.port.now.port c.args.arrivals.now) c.args.watch.now c.args.watch.now) (sym c.in-Count.is)
    (told_nil g.H.Watch.alerted g.met.H.Watch.nothing _ c.args.watch.now (count-alerts c.args.streams.now c.args.port.now.port c.args.arrivals.now _))
