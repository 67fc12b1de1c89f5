use Rattle.std.proofs.Common.{◌≡◌, ◌++◌, List, ℕ, Option, Some, ap, sym, ◌∙◌, append-nil}
use Rattle.std.proofs.lemmas.Result.{err_from_is_err_and}
use Rattle.text.proofs.Fronts.{sent_exit, sent_last, sent_more, sent_none}
use Rattle.frame_table.specs.Words.{AbstractPort, Arrival, Clock, Stream, ending_text, judged_rows, left_rows, rows_at, rows_text}
use Rattle.script.proofs.AlertLaws.{alerting_fault, front_of_more}
use Rattle.frame_table.proofs.AlertLaws.{alerting_last}
use Rattle.frame_table.proofs.AskedLaws.{last-alerts}
use Rattle.frame_table.proofs.RowLaws.{rows-append}
use Rattle.frame_table.proofs.table_run.put_end.Goals as goal

-- the rows of a clock event after the lines, and of what is left then
ending : (streams : Option (List Stream)) (until : Option ℕ) (m : ℕ) (p : AbstractPort) (w : List (List Arrival)) → until ≡ Some m → ending_text streams until p w ≡ rows_text streams (rows_at (Clock m) p w).0 ++ rows_text streams (left_rows (rows_at (Clock m) p w).1)
ending streams until m p w is =
    let rows = rows_at (Clock m) p w in
    ap (λ u. ending_text streams u p w) is ∙ (ap (λ r. rows_text streams (r ++ left_rows rows.1)) (append-nil rows.0) ∙ rows-append streams rows.0 (left_rows rows.1))

pub returns-in_err-take_clock-in-Some-clause-text : goal.returns-in_err-take_clock-in-Some-clause-text
returns-in_err-take_clock-in-Some-clause-text g c =
    let p = err_from_is_err_and c.from_residual.result c.from_residual.ensures.1 in
    sent_exit _ _ _ p.1 (sent_none _ _) (ending c.args.streams.now _ _ _ _ c.in-Some.is) c.in_err-take_clock-in-Some.ensures.text

pub returns-in_ok-take_clock-in-Some-clause-text : goal.returns-in_ok-take_clock-in-Some-clause-text
returns-in_ok-take_clock-in-Some-clause-text g c =
    let p = c.args.port.now.port in
    let w = c.args.arrivals.now in
    let done = c.in_ok-take_clock-in-Some.ensures in
    let all = ending c.args.streams.now _ _ p w c.in-Some.is ∙ ap (λ v. rows_text c.args.streams.now (rows_at (Clock c.in-Some.moment) p w).0 ++ rows_text c.args.streams.now (left_rows v)) (sym done.after.waiting) in
    sent_last _ _ (sent_more _ _ _ (sent_none _ _) all done.text) c.put_all_left-in-Some.ensures.text

pub returns-in_err-take_clock-in-Some-clause-alerts : goal.returns-in_err-take_clock-in-Some-clause-alerts
returns-in_err-take_clock-in-Some-clause-alerts g c =
    let p = err_from_is_err_and c.from_residual.result c.from_residual.ensures.1 in
    let parts = last-alerts c.args.streams.now c.args.port.now.port c.args.arrivals.now c.args.until c.in-Some.moment c.in-Some.is in
    alerting_fault g.H.Watch.alerted _ _ _ _ _ p.1 (front_of_more g.H.Watch.alerted _ _ _ _ _ parts c.in_err-take_clock-in-Some.ensures.alerts)

pub returns-in_ok-take_clock-in-Some-clause-alerts : goal.returns-in_ok-take_clock-in-Some-clause-alerts
returns-in_ok-take_clock-in-Some-clause-alerts g c =
    let p = c.args.port.now.port in
    let w = c.args.arrivals.now in
    let done = c.in_ok-take_clock-in-Some.ensures in
    let rows = judged_rows c.args.streams.now (rows_at (Clock c.in-Some.moment) p w).0 in
    let parts = last-alerts c.args.streams.now p w c.args.until c.in-Some.moment c.in-Some.is ∙ ap (λ v. rows ++ judged_rows c.args.streams.now (left_rows v)) (sym done.after.waiting) in
    alerting_last g.H.Watch.alerted g.met.H.Watch.both _ _ c.args.watch.now c.take_clock.new.watch c.put_all_left-in-Some.new.watch c.put_all_left-in-Some.result (record { so_far = rows; alerted_so_far = done.alerts; parts = parts }) c.put_all_left-in-Some.ensures.alerts
