use Rattle.std.proofs.Common.{◌≡◌, [], Option, Some, sym, ap, ◌∙◌, subst, append-nil}
use Rattle.text.proofs.Fronts.{Appends-nil}
use Rattle.std.specs.Io.KnownBytes.{Appends}
use Rattle.frame_table.specs.Words.{Arrival, FrameRow, Writes, first_came, judged_row, judged_rows, rows_text, sent_row}
use Rattle.frame_table.specs.declared.rows.Fate.TheVariants.{Sent}
use Rattle.script.proofs.AlertLaws.{alerts_same}
use Rattle.frame_table.proofs.AlertLaws.{alerting_same}
use Rattle.frame_table.proofs.RowLaws.{one_row}
use Rattle.frame_table.proofs.table_run.put_sent.Goals as goal

pub returns-in-None-clause-text : goal.returns-in-None-clause-text
returns-in-None-clause-text g c =
    let P : Option Arrival → Type 0 = λ o. Appends (g.W.Write.contents c.args.writer.now) (g.W.Write.contents c.args.writer.now) (rows_text c.args.streams.now (sent_row c.args.start.now o)) in
    subst P (sym c.in-None.is ∙ c.take.ensures.first) (Appends-nil _)

pub returns-in-Some-clause-text : goal.returns-in-Some-clause-text
returns-in-Some-clause-text g c =
    let P : Option Arrival → Type 0 = λ o. Writes c.put_row.result (g.W.Write.contents c.args.writer.now) (g.W.Write.contents c.put_row.new.writer) (rows_text c.args.streams.now (sent_row c.args.start.now o)) in
    subst P (sym c.in-Some.is ∙ c.take.ensures.first) (one_row c.args.streams.now c.put_row.result _ _ (record { arrival = c.in-Some.arrival; class = Some c.args.start.now.class; fate = Sent c.args.start.now }) c.put_row.ensures.text)

pub returns-in-None-clause-alerts : goal.returns-in-None-clause-alerts
returns-in-None-clause-alerts g c =
    let same : [] ≡ judged_rows c.args.streams.now (sent_row c.args.start.now (first_came c.args.start.now.class c.args.arrivals.now)) = ap (λ o. judged_rows c.args.streams.now (sent_row c.args.start.now o)) (sym c.in-None.is ∙ c.take.ensures.first) in
    alerts_same g.H.Watch.alerted [] _ c.args.watch.now c.args.watch.now same (g.met.H.Watch.nothing c.args.watch.now)

pub returns-in-Some-clause-alerts : goal.returns-in-Some-clause-alerts
returns-in-Some-clause-alerts g c =
    let row : FrameRow = record { arrival = c.in-Some.arrival; class = Some c.args.start.now.class; fate = Sent c.args.start.now } in
    let same = sym (append-nil (judged_row c.args.streams.now row)) ∙ ap (λ o. judged_rows c.args.streams.now (sent_row c.args.start.now o)) (sym c.in-Some.is ∙ c.take.ensures.first) in
    alerting_same g.H.Watch.alerted _ _ c.put_row.result c.args.watch.now c.put_row.new.watch same c.put_row.ensures.alerts
