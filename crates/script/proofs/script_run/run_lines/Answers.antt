use Rattle.std.proofs.Common.{ap, Ok, Err, refl, ◌∙◌}
use Rattle.std.proofs.lemmas.Result.{err_from_is_err_and}
use Rattle.script.specs.Words.{reading_of, script_left}
use Rattle.script.specs.declared.answering.Answering.{Answering}
use Rattle.script.proofs.AlertLaws.{watched_short, watched_well}
use Rattle.script.proofs.AnsweringLaws.{walked_from}
use Rattle.script.proofs.LineSteps.{stands_for_itself}
use Rattle.script.proofs.ReportLaws.{ended_early, ended_short, ended_well, if_known, watched_early}
use Rattle.script.proofs.script_run.run_lines.Goals as goal

pub returns-in_err-walk-clause-script : goal.returns-in_err-walk-clause-script
returns-in_err-walk-clause-script g c = λ read is.
    let p = err_from_is_err_and c.from_residual.result c.from_residual.ensures.1 in
    let p0 = c.args.answering.now.port.port in
    if_known (script_left g.R.Read.remaining c.args.lines.now)
    (λ script w. ended_early g.H.Watch.alerted (λ (s : Answering _). s.port) (λ (s : Answering _). s.summary) g.W.Write.contents c.args.until (reading_of read script) p0 c.args.answering.now c.walk.new.taker c.args.writer.now c.walk.new.out c.args.watch.now c.walk.new.watch (stands_for_itself p0 c.now-now.ensures.sound) _ (p.1 ∙ ap Err p.2) w)
    (c.in_err-walk.ensures read is)

pub returns-in_err-end-clause-script : goal.returns-in_err-end-clause-script
returns-in_err-end-clause-script g c = λ read is.
    let p = err_from_is_err_and c.from_residual-in_err-end.result c.from_residual-in_err-end.ensures.1 in
    let p0 = c.args.answering.now.port.port in
    if_known (script_left g.R.Read.remaining c.args.lines.now)
    (λ script w. ended_short g.H.Watch.alerted c.args.until (reading_of read script) p0 c.walk.new.taker.port.port c.args.answering.now.summary c.walk.new.taker.summary c.settling.ensures (g.W.Write.contents c.args.writer.now) (g.W.Write.contents c.walk.new.out) _ c.args.watch.now c.walk.new.watch (walked_from g.H.Watch.alerted (λ (s : Answering _). s.port) (λ (s : Answering _). s.summary) g.W.Write.contents {T = Unit {0}} (reading_of read script) (Ok tt) p0 c.args.answering.now c.walk.new.taker c.args.writer.now c.walk.new.out c.args.watch.now c.walk.new.watch (stands_for_itself p0 c.now-now.ensures.sound) w) _ (p.1 ∙ ap Err p.2) c.in_err-end.ensures.text)
    (c.in_ok-walk.ensures read is)

pub returns-clause-script : goal.returns-clause-script
returns-clause-script g c = λ read is.
    let p0 = c.args.answering.now.port.port in
    if_known (script_left g.R.Read.remaining c.args.lines.now)
    (λ script w. ended_well g.H.Watch.alerted c.args.until (reading_of read script) p0 c.walk.new.taker.port.port c.args.answering.now.summary c.walk.new.taker.summary c.settling.ensures (g.W.Write.contents c.args.writer.now) (g.W.Write.contents c.walk.new.out) _ c.args.watch.now c.walk.new.watch (walked_from g.H.Watch.alerted (λ (s : Answering _). s.port) (λ (s : Answering _). s.summary) g.W.Write.contents {T = Unit {0}} (reading_of read script) (Ok tt) p0 c.args.answering.now c.walk.new.taker c.args.writer.now c.walk.new.out c.args.watch.now c.walk.new.watch (stands_for_itself p0 c.now-now.ensures.sound) w) refl c.in_ok-end.ensures.text)
    (c.in_ok-walk.ensures read is)

pub returns-in_err-walk-clause-watched : goal.returns-in_err-walk-clause-watched
returns-in_err-walk-clause-watched g c = λ read is.
    let p = err_from_is_err_and c.from_residual.result c.from_residual.ensures.1 in
    let p0 = c.args.answering.now.port.port in
    if_known (script_left g.R.Read.remaining c.args.lines.now)
    (λ script w. watched_early g.H.Watch.alerted (λ (s : Answering _). s.port) (λ (s : Answering _). s.summary) g.W.Write.contents c.args.until (reading_of read script) p0 c.args.answering.now c.walk.new.taker c.args.writer.now c.walk.new.out c.args.watch.now c.walk.new.watch (stands_for_itself p0 c.now-now.ensures.sound) _ (p.1 ∙ ap Err p.2) w)
    (c.in_err-walk.ensures read is)

pub returns-in_err-end-clause-watched : goal.returns-in_err-end-clause-watched
returns-in_err-end-clause-watched g c = λ read is.
    let p = err_from_is_err_and c.from_residual-in_err-end.result c.from_residual-in_err-end.ensures.1 in
    let p0 = c.args.answering.now.port.port in
    if_known (script_left g.R.Read.remaining c.args.lines.now)
    (λ script w. let a = (walked_from g.H.Watch.alerted (λ (s : Answering _). s.port) (λ (s : Answering _). s.summary) g.W.Write.contents {T = Unit {0}} (reading_of read script) (Ok tt) p0 c.args.answering.now c.walk.new.taker c.args.writer.now c.walk.new.out c.args.watch.now c.walk.new.watch (stands_for_itself p0 c.now-now.ensures.sound) w) in watched_short g.H.Watch.alerted c.args.until (reading_of read script) p0 c.args.watch.now g.met.H.Watch.both c.settling.ensures _ c.walk.new.watch c.end.new.watch a.0 a.1.stands a.1.alerts _ _ (p.1 ∙ ap Err p.2) c.in_err-end.ensures.alerts)
    (c.in_ok-walk.ensures read is)

pub returns-clause-watched : goal.returns-clause-watched
returns-clause-watched g c = λ read is.
    let p0 = c.args.answering.now.port.port in
    if_known (script_left g.R.Read.remaining c.args.lines.now)
    (λ script w. let a = (walked_from g.H.Watch.alerted (λ (s : Answering _). s.port) (λ (s : Answering _). s.summary) g.W.Write.contents {T = Unit {0}} (reading_of read script) (Ok tt) p0 c.args.answering.now c.walk.new.taker c.args.writer.now c.walk.new.out c.args.watch.now c.walk.new.watch (stands_for_itself p0 c.now-now.ensures.sound) w) in watched_well g.H.Watch.alerted c.args.until (reading_of read script) p0 c.args.watch.now g.met.H.Watch.both c.settling.ensures _ c.walk.new.watch c.end.new.watch a.0 a.1.stands a.1.alerts _ tt refl c.in_ok-end.ensures.alerts)
    (c.in_ok-walk.ensures read is)
