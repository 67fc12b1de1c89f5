use Rattle.std.proofs.Common.{◌≡◌, ◌<◌, ◌≤◌, ◌∷◌, [], Ok, Err, ℕ, map, refl, sym, ap, ◌∙◌, subst}
use Rattle.std.proofs.lemmas.Result.{err_from_is_err_and}
use Rattle.std.specs.Prelude.{OnOk}
use Rattle.replay.specs.Words.{AnswersStarts, IsTogether, Keeps, PortState, State, last_end, noted, starts_until, state}
use Rattle.abstract_port.specs.declared.Answer.TheVariants as Answered
use Rattle.abstract_port.specs.declared.Event.TheVariants as Events
use Rattle.abstract_port.proofs.RunLaws.{settled-current}
use Rattle.replay.specs.declared.faults.Stop.TheVariants as Stops
use Rattle.replay.proofs.ArrivalLaws.{one_answer}
use Rattle.replay.specs.SeenLaws.{noted-one}
use Rattle.replay.specs.Sends.{both_all, both_none, never, of_error, report_short, report_whole}
use Rattle.replay.proofs.StartLaws.{idle_queues, idle_room, no-starts-end, no-starts-last, no-starts-out, no-starts-seen, none-before, still_keeps, still_together}
use Rattle.replay.proofs.TellLaws.{answers_one, clock_back, clock_on}
use Rattle.replay.proofs.sender.put_clock.Goals as goal

pub returns-in_err-put_backward-clause-answers : goal.returns-in_err-put_backward-clause-answers
returns-in_err-put_backward-clause-answers g c = λ es k.
    let p = err_from_is_err_and c.from_residual.result c.from_residual.ensures.1 in
    let s = state c.args.sending.now (g.V.Write.contents c.args.report.now) (g.W.Write.contents c.args.departures.now) in
    let t : State = record { port = s.port; store = s.store; seen = c.put_backward.new.summary; stamping = s.stamping; got = record { report = g.V.Write.contents c.put_backward.new.report; departures = g.W.Write.contents c.args.departures.now } } in
    let P : ℕ → Type 0 = λ n. c.args.moment < n in
    let back = clock_back c.args.moment s.port (subst P c.now-now.ensures.now c.if-moment-now.true) in
    let out = report_short c.from_residual.result (g.W.Write.contents c.args.departures.now) [] p.1 c.in_err-put_backward.ensures.text in
    answers_one c.from_residual.result es (Events.Clock c.args.moment) s t (Answered.Backward ∷ []) s.port back (never _ p.1) (never _ p.1) (never _ p.1)
    (rw (one_answer es Answered.Backward refl) out)

pub returns-then-moment-now-clause-answers : goal.returns-then-moment-now-clause-answers
returns-then-moment-now-clause-answers g c = λ es k.
    let s = state c.args.sending.now (g.V.Write.contents c.args.report.now) (g.W.Write.contents c.args.departures.now) in
    let t : State = record { port = s.port; store = s.store; seen = c.put_backward.new.summary; stamping = s.stamping; got = record { report = g.V.Write.contents c.put_backward.new.report; departures = g.W.Write.contents c.args.departures.now } } in
    let P : ℕ → Type 0 = λ n. c.args.moment < n in
    let back = clock_back c.args.moment s.port (subst P c.now-now.ensures.now c.if-moment-now.true) in
    answers_one (Ok tt) es (Events.Clock c.args.moment) s t (Answered.Backward ∷ []) s.port back (sym (settled-current s.port c.requires.together.sound.current)) k
    (c.in_ok-put_backward.ensures.seen ∙ ap (λ n. noted n Answered.Backward s.seen) c.now-now.ensures.now ∙ noted-one s.port.now Answered.Backward s.seen)
    (rw (one_answer es Answered.Backward refl) (report_whole tt (g.W.Write.contents c.args.departures.now) c.in_ok-put_backward.ensures.text))

pub returns-then-rest_until-clause-answers : goal.returns-then-rest_until-clause-answers
returns-then-rest_until-clause-answers g c = λ es k.
    let s = state c.args.sending.now (g.V.Write.contents c.args.report.now) (g.W.Write.contents c.args.departures.now) in
    let t : State = record { port = c.rest_until.new.self.port; store = s.store; seen = s.seen; stamping = s.stamping; got = s.got } in
    let P : ℕ → Type 0 = λ n. n ≤ c.args.moment in
    let later = subst P c.now-now.ensures.now c.if-moment-now.false in
    let sound = c.requires.together.sound in
    let e = c.rest_until.ensures.start c.if-rest_until.true in
    let after = c.rest_until.ensures.port c.if-rest_until.true in
    answers_one (Ok tt) es (Events.Clock c.args.moment) s t (map Answered.Start (starts_until s.port c.args.moment).0) (starts_until s.port c.args.moment).1
    (clock_on c.args.moment s.port later c.requires.within)
    (no-starts-end s.port t.port c.args.moment later after sound e)
    (still_keeps es s t (idle_queues s.port t.port c.args.moment later after sound e) refl refl k)
    (sym (no-starts-seen s.port t.port c.args.moment later after sound e s.port.now s.seen))
    (both_all tt (both_none _ _) (no-starts-out s.port t.port c.args.moment later after sound e es))

pub returns-clause-answers : goal.returns-clause-answers
returns-clause-answers g c = λ es k.
    let s = state c.args.sending.now (g.V.Write.contents c.args.report.now) (g.W.Write.contents c.args.departures.now) in
    let t = state c.put_each_start.new.sending (g.V.Write.contents c.put_each_start.new.report) (g.W.Write.contents c.put_each_start.new.departures) in
    let L : ℕ → Type 0 = λ n. n ≤ c.args.moment in
    let on = clock_on c.args.moment s.port (subst L c.now-now.ensures.now c.if-moment-now.false) c.requires.within in
    let kept = c.rest_until.ensures.kept c.if-rest_until.false in
    let K : PortState → Type 0 = λ p. Keeps es (record s { port = p.port }) in
    let P : PortState → Type 0 = λ p. AnswersStarts es c.put_each_start.result c.args.moment (record s { port = p.port }) t in
    let a = subst P kept (c.put_each_start.ensures.starts es (subst K (sym kept) k)) in
    answers_one c.put_each_start.result es (Events.Clock c.args.moment) s t (map Answered.Start (starts_until s.port c.args.moment).0) (starts_until s.port c.args.moment).1 on a.port a.keeps a.seen a.out

pub returns-in_err-put_backward-clause-together : goal.returns-in_err-put_backward-clause-together
returns-in_err-put_backward-clause-together g c = never _ (err_from_is_err_and c.from_residual.result c.from_residual.ensures.1).1

pub returns-in_err-put_backward-clause-fault : goal.returns-in_err-put_backward-clause-fault
returns-in_err-put_backward-clause-fault g c =
    let p = err_from_is_err_and c.from_residual.result c.from_residual.ensures.1 in
    of_error c.from_residual.result Stops.Write (λ fault. fault ≡ Stops.Write) (p.1 ∙ ap Err p.2) refl

pub returns-then-moment-now-clause-together : goal.returns-then-moment-now-clause-together
returns-then-moment-now-clause-together g c =
    let i = c.requires.together in
    record { lengths = i.lengths; room = i.room; sound = i.sound }

pub returns-then-moment-now-clause-fault : goal.returns-then-moment-now-clause-fault
returns-then-moment-now-clause-fault g c = tt

pub returns-then-rest_until-clause-together : goal.returns-then-rest_until-clause-together
returns-then-rest_until-clause-together g c =
    let s = state c.args.sending.now (g.V.Write.contents c.args.report.now) (g.W.Write.contents c.args.departures.now) in
    let t : State = record { port = c.rest_until.new.self.port; store = s.store; seen = s.seen; stamping = s.stamping; got = s.got } in
    let P : ℕ → Type 0 = λ n. n ≤ c.args.moment in
    let later = subst P c.now-now.ensures.now c.if-moment-now.false in
    let sound = c.requires.together.sound in
    let e = c.rest_until.ensures.start c.if-rest_until.true in
    let after = c.rest_until.ensures.port c.if-rest_until.true in
    still_together s t (idle_queues s.port t.port c.args.moment later after sound e) (idle_room s.port t.port c.args.moment later after sound e) refl c.rest_until.ensures.sound c.requires.together

pub returns-then-rest_until-clause-fault : goal.returns-then-rest_until-clause-fault
returns-then-rest_until-clause-fault g c = tt

pub returns-clause-together : goal.returns-clause-together
returns-clause-together g c = c.put_each_start.ensures.together

pub returns-clause-fault : goal.returns-clause-fault
returns-clause-fault g c = c.put_each_start.ensures.fault

pub put_each_start-requires : goal.put_each_start-requires
put_each_start-requires g c =
    let s = state c.args.sending.now (g.V.Write.contents c.args.report.now) (g.W.Write.contents c.args.departures.now) in
    let L : ℕ → Type 0 = λ n. n ≤ c.args.moment in
    let later = subst L c.now-now.ensures.now c.if-moment-now.false in
    let kept = c.rest_until.ensures.kept c.if-rest_until.false in
    let P : PortState → Type 0 = λ p. IsTogether (record s { port = p.port }) in
    let N : PortState → Type 0 = λ p. p.port.now ≤ c.args.moment in
    (search, (subst N (sym kept) later, (c.requires.within, subst P (sym kept) c.requires.together)))

pub returns-in_err-put_backward-clause-last : goal.returns-in_err-put_backward-clause-last
returns-in_err-put_backward-clause-last g c = never _ (err_from_is_err_and c.from_residual.result c.from_residual.ensures.1).1

pub returns-then-moment-now-clause-last : goal.returns-then-moment-now-clause-last
returns-then-moment-now-clause-last g c =
    let p = c.args.sending.now.port.port in
    let P : ℕ → Type 0 = λ n. c.args.moment < n in
    sym (none-before p c.args.moment c.args.sending.now.leaving.last (subst P c.now-now.ensures.now c.if-moment-now.true))

pub returns-then-rest_until-clause-last : goal.returns-then-rest_until-clause-last
returns-then-rest_until-clause-last g c =
    let P : ℕ → Type 0 = λ n. n ≤ c.args.moment in
    let later = subst P c.now-now.ensures.now c.if-moment-now.false in
    let e = c.rest_until.ensures.start c.if-rest_until.true in
    let after = c.rest_until.ensures.port c.if-rest_until.true in
    sym (no-starts-last c.args.sending.now.port.port c.rest_until.new.self.port c.args.moment later after c.requires.together.sound e c.args.sending.now.leaving.last)

pub returns-clause-last : goal.returns-clause-last
returns-clause-last g c =
    let kept = c.rest_until.ensures.kept c.if-rest_until.false in
    let P : PortState → Type 0 = λ p. OnOk c.put_each_start.result (c.put_each_start.new.sending.leaving.last ≡ last_end c.args.sending.now.leaving.last (starts_until p.port c.args.moment).0) in
    subst P kept c.put_each_start.ensures.last
