use Rattle.std.proofs.Common.{[], ◌∷◌, ℕ, Ok, Err, ap, ◌∙◌, subst}
use Rattle.std.proofs.lemmas.Result.{err_from_is_err_and}
use Rattle.abstract_port.specs.declared.Event.TheVariants.{Clock}
use Rattle.replay.specs.Words.{Asks, counted_to, Answers, state}
use Rattle.replay.proofs.EndLaws.{counted, told_exit, told_whole}
use Rattle.replay.specs.RunLaws.{answers_none}
use Rattle.replay.specs.Sends.{report_short, report_whole}
use Rattle.replay.proofs.replay_run.run_on.Goals as goal

pub returns-in_err-put_clock : goal.returns-in_err-put_clock
returns-in_err-put_clock g c = λ es k.
    let r = c.from_residual.result in
    let p = err_from_is_err_and r c.from_residual.ensures.1 in
    let y = c.in_err-put_clock.field-0.0 in
    let s = state c.args.sending.now (g.V.Write.contents c.args.outputs.now.report) (g.W.Write.contents c.args.outputs.now.departures) in
    let u = state c.put_clock.new.sending (g.V.Write.contents c.put_clock.new.report) (g.W.Write.contents c.put_clock.new.departures) in
    let Q : ℕ → Type 0 = λ n. Answers {T = Unit {0}} es (Err y) (Asks (Clock n) ∷ []) s u in
    told_exit r es c.args.until [] s u (p.1 ∙ ap Err p.2) (subst Q c.run_end-upto.ensures.moment (c.in_err-put_clock.ensures.answers es k))

pub returns-in_err-put_end_of : goal.returns-in_err-put_end_of
returns-in_err-put_end_of g c = λ es k.
    let r = c.from_residual-in_err-put_end_of.result in
    let p = err_from_is_err_and r c.from_residual-in_err-put_end_of.ensures.1 in
    let until = c.args.until in
    let s = state c.args.sending.now (g.V.Write.contents c.args.outputs.now.report) (g.W.Write.contents c.args.outputs.now.departures) in
    let u = state c.put_clock.new.sending (g.V.Write.contents c.put_clock.new.report) (g.W.Write.contents c.put_clock.new.departures) in
    let Q : ℕ → Type 0 = λ n. Answers {T = Unit {0}} es (Ok tt) (Asks (Clock n) ∷ []) s u in
    let b = subst Q c.run_end-upto.ensures.moment (c.in_ok-put_clock.ensures.answers es k) in
    let last = c.put_clock.new.sending.leaving.last in
    told_whole r es until [] s s u _ (counted_to until last u.port.now) c.requires.together.sound (answers_none tt es s c.requires.together.sound k) b
    (counted until s.port u.port last c.run_end-upto.result c.now-from.result c.in_ok-put_clock.ensures.last c.now-from.ensures.now c.run_end-upto.ensures.moment)
    (report_short r (g.W.Write.contents c.put_clock.new.departures) [] p.1 c.in_err-put_end_of.ensures)

pub returns : goal.returns
returns g c = λ es k.
    let until = c.args.until in
    let s = state c.args.sending.now (g.V.Write.contents c.args.outputs.now.report) (g.W.Write.contents c.args.outputs.now.departures) in
    let u = state c.put_clock.new.sending (g.V.Write.contents c.put_clock.new.report) (g.W.Write.contents c.put_clock.new.departures) in
    let Q : ℕ → Type 0 = λ n. Answers {T = Unit {0}} es (Ok tt) (Asks (Clock n) ∷ []) s u in
    let b = subst Q c.run_end-upto.ensures.moment (c.in_ok-put_clock.ensures.answers es k) in
    let last = c.put_clock.new.sending.leaving.last in
    told_whole {T = Unit {0}} (Ok tt) es until [] s s u _ (counted_to until last u.port.now) c.requires.together.sound (answers_none tt es s c.requires.together.sound k) b
    (counted until s.port u.port last c.run_end-upto.result c.now-from.result c.in_ok-put_clock.ensures.last c.now-from.ensures.now c.run_end-upto.ensures.moment)
    (report_whole tt (g.W.Write.contents c.put_clock.new.departures) c.in_ok-put_end_of.ensures)

pub run_end-upto-requires : goal.run_end-upto-requires
run_end-upto-requires g c = c.requires.until

pub put_clock-requires : goal.put_clock-requires
put_clock-requires g c = (search, (c.run_end-upto.ensures.within, c.requires.together))

pub put_end_of-requires : goal.put_end_of-requires
put_end_of-requires g c = search
