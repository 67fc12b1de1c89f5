use Rattle.std.proofs.Common.{Err, ap, ◌∙◌}
use Rattle.std.proofs.lemmas.Result.{err_from_is_err_and}
use Rattle.script.proofs.ReportLaws.{if_known}
use Rattle.frame_table.specs.Words.{place, reading_of, script_left}
use Rattle.frame_table.specs.declared.tabled.Tabled.{Tabled}
use Rattle.frame_table.proofs.TabledLaws.{ended_early, ended_short, ended_well, told_early, told_short}
use Rattle.frame_table.proofs.table_run.put_lines.Goals as goal

pub returns-in_err-walk-clause-table : goal.returns-in_err-walk-clause-table
returns-in_err-walk-clause-table g c = λ read is.
    let p = err_from_is_err_and c.from_residual.result c.from_residual.ensures.1 in
    if_known (script_left g.R.Read.remaining c.args.lines.now)
    (λ script w. ended_early g.H.Watch.alerted (λ (s : Tabled _ _). s.streams.now) (λ (s : Tabled _ _) w h. place s.port.port s.arrivals (g.W.Write.contents w) h) c.args.until (reading_of read script) g.met.H.Watch.nothing c.args.tabled.now c.args.writer.now c.args.watch.now c.walk.new.taker c.walk.new.out c.walk.new.watch c.now-now.ensures.sound _ (p.1 ∙ ap Err p.2) w)
    (c.in_err-walk.ensures read is)

pub returns-in_err-walk-clause-alerts : goal.returns-in_err-walk-clause-alerts
returns-in_err-walk-clause-alerts g c = λ read is.
    let p = err_from_is_err_and c.from_residual.result c.from_residual.ensures.1 in
    if_known (script_left g.R.Read.remaining c.args.lines.now)
    (λ script w. told_early g.H.Watch.alerted (λ (s : Tabled _ _). s.streams.now) (λ (s : Tabled _ _) w h. place s.port.port s.arrivals (g.W.Write.contents w) h) c.args.until (reading_of read script) g.met.H.Watch.nothing c.args.tabled.now c.args.writer.now c.args.watch.now c.walk.new.taker c.walk.new.out c.walk.new.watch c.now-now.ensures.sound _ (p.1 ∙ ap Err p.2) w)
    (c.in_err-walk.ensures read is)

pub returns-in_err-put_end-clause-table : goal.returns-in_err-put_end-clause-table
returns-in_err-put_end-clause-table g c = λ read is.
    let p = err_from_is_err_and c.from_residual-in_err-put_end.result c.from_residual-in_err-put_end.ensures.1 in
    let z = place c.put_end.new.port.port c.put_end.new.arrivals (g.W.Write.contents c.put_end.new.writer) c.put_end.new.watch in
    if_known (script_left g.R.Read.remaining c.args.lines.now)
    (λ script w. ended_short g.H.Watch.alerted (λ (s : Tabled _ _). s.streams.now) (λ (s : Tabled _ _) w h. place s.port.port s.arrivals (g.W.Write.contents w) h) c.args.until (reading_of read script) g.met.H.Watch.nothing c.args.tabled.now c.args.writer.now c.args.watch.now c.walk.new.taker c.walk.new.out c.walk.new.watch c.now-now.ensures.sound g.met.H.Watch.both w z (p.1 ∙ ap Err p.2) c.in_err-put_end.ensures.text c.in_err-put_end.ensures.alerts)
    (c.in_ok-walk.ensures read is)

pub returns-in_err-put_end-clause-alerts : goal.returns-in_err-put_end-clause-alerts
returns-in_err-put_end-clause-alerts g c = λ read is.
    let p = err_from_is_err_and c.from_residual-in_err-put_end.result c.from_residual-in_err-put_end.ensures.1 in
    let z = place c.put_end.new.port.port c.put_end.new.arrivals (g.W.Write.contents c.put_end.new.writer) c.put_end.new.watch in
    if_known (script_left g.R.Read.remaining c.args.lines.now)
    (λ script w. told_short g.H.Watch.alerted (λ (s : Tabled _ _). s.streams.now) (λ (s : Tabled _ _) w h. place s.port.port s.arrivals (g.W.Write.contents w) h) c.args.until (reading_of read script) g.met.H.Watch.nothing c.args.tabled.now c.args.writer.now c.args.watch.now c.walk.new.taker c.walk.new.out c.walk.new.watch c.now-now.ensures.sound g.met.H.Watch.both w z (p.1 ∙ ap Err p.2) c.in_err-put_end.ensures.text c.in_err-put_end.ensures.alerts)
    (c.in_ok-walk.ensures read is)

pub returns-clause-table : goal.returns-clause-table
returns-clause-table g c = λ read is.
    let z = place c.put_end.new.port.port c.put_end.new.arrivals (g.W.Write.contents c.put_end.new.writer) c.put_end.new.watch in
    if_known (script_left g.R.Read.remaining c.args.lines.now)
    (λ script w. (ended_well g.H.Watch.alerted (λ (s : Tabled _ _). s.streams.now) (λ (s : Tabled _ _) w h. place s.port.port s.arrivals (g.W.Write.contents w) h) c.args.until (reading_of read script) g.met.H.Watch.nothing c.args.tabled.now c.args.writer.now c.args.watch.now c.walk.new.taker c.walk.new.out c.walk.new.watch c.now-now.ensures.sound g.met.H.Watch.both w z c.in_ok-put_end.ensures.text c.in_ok-put_end.ensures.alerts).out)
    (c.in_ok-walk.ensures read is)

pub returns-clause-alerts : goal.returns-clause-alerts
returns-clause-alerts g c = λ read is.
    let z = place c.put_end.new.port.port c.put_end.new.arrivals (g.W.Write.contents c.put_end.new.writer) c.put_end.new.watch in
    if_known (script_left g.R.Read.remaining c.args.lines.now)
    (λ script w. (ended_well g.H.Watch.alerted (λ (s : Tabled _ _). s.streams.now) (λ (s : Tabled _ _) w h. place s.port.port s.arrivals (g.W.Write.contents w) h) c.args.until (reading_of read script) g.met.H.Watch.nothing c.args.tabled.now c.args.writer.now c.args.watch.now c.walk.new.taker c.walk.new.out c.walk.new.watch c.now-now.ensures.sound g.met.H.Watch.both w z c.in_ok-put_end.ensures.text c.in_ok-put_end.ensures.alerts).told)
    (c.in_ok-walk.ensures read is)
