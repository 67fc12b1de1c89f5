use Rattle.std.proofs.Common.{ℕ, [], ◌∷◌, List, sym, ◌∙◌, subst}
use Rattle.script.specs.Alerts.{Lost}
use Rattle.script.proofs.AlertLaws.{alerting_all, alerts_same}
use Rattle.frame_table.specs.Words.{Arrive, Writes, arrival_at, comes}
use Rattle.frame_table.proofs.AlertLaws.{alerting_last}
use Rattle.frame_table.proofs.ArrivalLaws.{after_frame, joins-alerts, joins-text, joins-waiting, lost-alerts, lost-text, lost-waiting}
use Rattle.frame_table.proofs.HaltLaws.{after_all, after_waits, halted_alerts, halted_text, waits_text}
use Rattle.frame_table.proofs.table_run.take_frame.Goals as goal

pub returns-in-Ok-clause-text : goal.returns-in-Ok-clause-text
returns-in-Ok-clause-text g c =
    waits_text c.put_waiting.result (g.W.Write.contents c.args.writer.now) _ c.put_waiting.ensures.memory (joins-text c.args.port.now.port c.args.frame.now c.args.arrivals.now c.args.streams.now _ (sym c.arrive-verdict.ensures.answer ∙ c.in-Ok.is))

pub returns-in-Ok-clause-after : goal.returns-in-Ok-clause-after
returns-in-Ok-clause-after g c =
    let e = c.arrive-verdict.ensures in
    let p = c.args.port.now.port in
    let f = c.args.frame.now in
    let w = c.args.arrivals.now in
    after_waits c.put_waiting.result (Arrive f) p w c.arrive-verdict.new.self.port c.put_waiting.new.arrivals (comes c.in-Ok.joined (arrival_at c.now-now.result f) w)
    (after_frame p f c.arrive-verdict.new.self.port c.arrive-verdict.result e.sound e.answer e.port) c.put_waiting.ensures.waits
    (λ waits. joins-waiting p f w c.in-Ok.joined c.now-now.result _ (sym e.answer ∙ c.in-Ok.is) c.now-now.ensures.now waits) e.sound

pub returns-in-Ok-clause-alerts : goal.returns-in-Ok-clause-alerts
returns-in-Ok-clause-alerts g c =
    let none = joins-alerts c.args.port.now.port c.args.frame.now c.args.arrivals.now c.args.streams.now _ (sym c.arrive-verdict.ensures.answer ∙ c.in-Ok.is) in
    alerting_all g.H.Watch.alerted _ c.args.watch.now c.frame_came.new.self c.put_waiting.result (alerts_same g.H.Watch.alerted [] _ c.args.watch.now c.frame_came.new.self (sym none) c.frame_came.ensures)

pub returns-in-Err-clause-text : goal.returns-in-Err-clause-text
returns-in-Err-clause-text g c =
    let P : List ℕ → Type 0 = λ text. Writes c.put_row.result (g.W.Write.contents c.args.writer.now) (g.W.Write.contents c.put_row.new.writer) text in
    let same = lost-text c.args.port.now.port c.args.frame.now c.args.arrivals.now c.args.streams.now c.in-Err.why c.now-now.result c.class_for-class.result (sym c.arrive-verdict.ensures.answer ∙ c.in-Err.is) c.now-now.ensures.now c.class_for-class.ensures.class in
    halted_text c.put_row.result c.halted.result _ _ _ c.halted.ensures (subst P same c.put_row.ensures.text)

pub returns-in-Err-clause-after : goal.returns-in-Err-clause-after
returns-in-Err-clause-after g c =
    let e = c.arrive-verdict.ensures in
    let p = c.args.port.now.port in
    after_all c.halted.result (Arrive c.args.frame.now) p c.args.arrivals.now c.arrive-verdict.new.self.port c.args.arrivals.now
    (after_frame p c.args.frame.now c.arrive-verdict.new.self.port c.arrive-verdict.result e.sound e.answer e.port) (lost-waiting p c.args.frame.now c.args.arrivals.now c.in-Err.why (sym e.answer ∙ c.in-Err.is)) e.sound

pub returns-in-Err-clause-alerts : goal.returns-in-Err-clause-alerts
returns-in-Err-clause-alerts g c =
    let parts = lost-alerts c.args.port.now.port c.args.frame.now c.args.arrivals.now c.args.streams.now c.in-Err.why c.now-now.result c.class_for-class.result (sym c.arrive-verdict.ensures.answer ∙ c.in-Err.is) c.now-now.ensures.now c.class_for-class.ensures.class in
    halted_alerts g.H.Watch.alerted _ c.put_row.result c.halted.result c.args.watch.now c.put_row.new.watch c.halted.ensures
    (alerting_last g.H.Watch.alerted g.met.H.Watch.both _ _ c.args.watch.now c.frame_dropped.new.self c.put_row.new.watch c.put_row.result (record { so_far = Lost c.now-now.result c.args.frame.now c.in-Err.why ∷ []; alerted_so_far = c.frame_dropped.ensures; parts = parts }) c.put_row.ensures.alerts)
