use Rattle.std.proofs.Common.{Ok, [], ◌∷◌, rules, sym, subst}
use Rattle.std.specs.Prelude.{slice_range}
use Rattle.std.proofs.lemmas.Result.{err_from_is_err_and}
use Rattle.abstract_port.specs.declared.Event.TheVariants as Events
use Rattle.replay.specs.Words.{Asks, tc_request, words_of, IsKept, kept_request, Answers, Origin, state, KeptLine}
use Rattle.replay.specs.Sends.{never}
use Rattle.replay.proofs.TellLaws.{at, silent_count, silent_query, silent_tc, told_line, told_short, told_together}
use Rattle.replay.proofs.replay_taker.put_line.Goals as goal

pub returns-in-Clock-clause-answers : goal.returns-in-Clock-clause-answers
returns-in-Clock-clause-answers g c = λ read is es k.
    let s = state c.args.sending.now (g.V.Write.contents c.args.outputs.now.report) (g.W.Write.contents c.args.outputs.now.departures) in
    let t = state c.put_clock.new.sending (g.V.Write.contents c.put_clock.new.report) (g.W.Write.contents c.put_clock.new.departures) in
    let P : KeptLine → Type 0 = λ l. Answers es c.put_clock.result (kept_request read c.args.octets.now l ∷ []) s t in
    subst P (sym c.in-Clock.is) (c.put_clock.ensures.answers es k)

pub returns-in_err-put_answers-in-Query-clause-answers : goal.returns-in_err-put_answers-in-Query-clause-answers
returns-in_err-put_answers-in-Query-clause-answers g c = λ read is es k.
    let r = c.from_residual.result in
    let e = err_from_is_err_and r c.from_residual.ensures.1 in
    let s = state c.args.sending.now (g.V.Write.contents c.args.outputs.now.report) (g.W.Write.contents c.args.outputs.now.departures) in
    let p = s.port in
    let t = at c.put_answers.new.port.port s.store c.put_answers.new.summary s.stamping (g.V.Write.contents c.put_answers.new.writer) (g.W.Write.contents c.args.outputs.now.departures) in
    let P : KeptLine → Type 0 = λ l. Answers es r (kept_request read c.args.octets.now l ∷ []) s t in
    subst P (sym c.in-Query.is)
    (told_short es (Asks Events.Query) p t.port s.store s.seen t.seen s.stamping (g.V.Write.contents c.args.outputs.now.report) (g.V.Write.contents c.put_answers.new.writer) (g.W.Write.contents c.args.outputs.now.departures) (silent_query es p) r e.1 (c.in_err-put_answers-in-Query.ensures.answered.text))

pub returns-in_ok-put_answers-in-Query-clause-answers : goal.returns-in_ok-put_answers-in-Query-clause-answers
returns-in_ok-put_answers-in-Query-clause-answers g c = λ read is es k.
    let s = state c.args.sending.now (g.V.Write.contents c.args.outputs.now.report) (g.W.Write.contents c.args.outputs.now.departures) in
    let p = s.port in
    let t = at c.put_answers.new.port.port s.store c.put_answers.new.summary s.stamping (g.V.Write.contents c.put_answers.new.writer) (g.W.Write.contents c.args.outputs.now.departures) in
    let P : KeptLine → Type 0 = λ l. Answers {T = Unit {0}} es (Ok tt) (kept_request read c.args.octets.now l ∷ []) s t in
    subst P (sym c.in-Query.is)
    (told_line es (Asks Events.Query) p t.port s.store s.seen t.seen s.stamping (g.V.Write.contents c.args.outputs.now.report) (g.V.Write.contents c.put_answers.new.writer) (g.W.Write.contents c.args.outputs.now.departures) (silent_query es p) tt (c.in_ok-put_answers-in-Query.ensures.answered.text) (c.in_ok-put_answers-in-Query.ensures.answered.port) (c.in_ok-put_answers-in-Query.ensures.answered.seen) k)

pub returns-in_ok-put_answers-in-Query-clause-together : goal.returns-in_ok-put_answers-in-Query-clause-together
returns-in_ok-put_answers-in-Query-clause-together g c =
    let s = state c.args.sending.now (g.V.Write.contents c.args.outputs.now.report) (g.W.Write.contents c.args.outputs.now.departures) in
    let p = s.port in
    let es : Origin = record { entries = []; stamping = s.stamping } in
    told_together es (Asks Events.Query) p c.put_answers.new.port.port s.store _ _ _ _ _ _ (silent_query es p) (c.in_ok-put_answers-in-Query.ensures.answered.port) c.in_ok-put_answers-in-Query.ensures.answered.sound c.requires.together

pub returns-in_err-put_answers-in-Count-clause-answers : goal.returns-in_err-put_answers-in-Count-clause-answers
returns-in_err-put_answers-in-Count-clause-answers g c = λ read is es k.
    let r = c.from_residual-in_err-put_answers-in-Count.result in
    let e = err_from_is_err_and r c.from_residual-in_err-put_answers-in-Count.ensures.1 in
    let s = state c.args.sending.now (g.V.Write.contents c.args.outputs.now.report) (g.W.Write.contents c.args.outputs.now.departures) in
    let p = s.port in
    let t = at c.put_answers-in-Count.new.port.port s.store c.put_answers-in-Count.new.summary s.stamping (g.V.Write.contents c.put_answers-in-Count.new.writer) (g.W.Write.contents c.args.outputs.now.departures) in
    let P : KeptLine → Type 0 = λ l. Answers es r (kept_request read c.args.octets.now l ∷ []) s t in
    subst P (sym c.in-Count.is)
    (told_short es (Asks (Events.Count c.in-Count.class)) p t.port s.store s.seen t.seen s.stamping (g.V.Write.contents c.args.outputs.now.report) (g.V.Write.contents c.put_answers-in-Count.new.writer) (g.W.Write.contents c.args.outputs.now.departures) (silent_count es c.in-Count.class p) r e.1 (c.in_err-put_answers-in-Count.ensures.answered.text))

pub returns-in_ok-put_answers-in-Count-clause-answers : goal.returns-in_ok-put_answers-in-Count-clause-answers
returns-in_ok-put_answers-in-Count-clause-answers g c = λ read is es k.
    let s = state c.args.sending.now (g.V.Write.contents c.args.outputs.now.report) (g.W.Write.contents c.args.outputs.now.departures) in
    let p = s.port in
    let t = at c.put_answers-in-Count.new.port.port s.store c.put_answers-in-Count.new.summary s.stamping (g.V.Write.contents c.put_answers-in-Count.new.writer) (g.W.Write.contents c.args.outputs.now.departures) in
    let P : KeptLine → Type 0 = λ l. Answers {T = Unit {0}} es (Ok tt) (kept_request read c.args.octets.now l ∷ []) s t in
    subst P (sym c.in-Count.is)
    (told_line es (Asks (Events.Count c.in-Count.class)) p t.port s.store s.seen t.seen s.stamping (g.V.Write.contents c.args.outputs.now.report) (g.V.Write.contents c.put_answers-in-Count.new.writer) (g.W.Write.contents c.args.outputs.now.departures) (silent_count es c.in-Count.class p) tt (c.in_ok-put_answers-in-Count.ensures.answered.text) (c.in_ok-put_answers-in-Count.ensures.answered.port) (c.in_ok-put_answers-in-Count.ensures.answered.seen) k)

pub returns-in_ok-put_answers-in-Count-clause-together : goal.returns-in_ok-put_answers-in-Count-clause-together
returns-in_ok-put_answers-in-Count-clause-together g c =
    let s = state c.args.sending.now (g.V.Write.contents c.args.outputs.now.report) (g.W.Write.contents c.args.outputs.now.departures) in
    let p = s.port in
    let es : Origin = record { entries = []; stamping = s.stamping } in
    told_together es (Asks (Events.Count c.in-Count.class)) p c.put_answers-in-Count.new.port.port s.store _ _ _ _ _ _ (silent_count es c.in-Count.class p) (c.in_ok-put_answers-in-Count.ensures.answered.port) c.in_ok-put_answers-in-Count.ensures.answered.sound c.requires.together

pub returns-in_err-put_tc-in-Tc-clause-answers : goal.returns-in_err-put_tc-in-Tc-clause-answers
returns-in_err-put_tc-in-Tc-clause-answers g c = λ read is es k.
    let r = c.from_residual-in_err-put_tc-in-Tc.result in
    let e = err_from_is_err_and r c.from_residual-in_err-put_tc-in-Tc.ensures.1 in
    let s = state c.args.sending.now (g.V.Write.contents c.args.outputs.now.report) (g.W.Write.contents c.args.outputs.now.departures) in
    let p = s.port in
    let t = at c.put_tc.new.port.port s.store c.put_tc.new.summary s.stamping (g.V.Write.contents c.put_tc.new.writer) (g.W.Write.contents c.args.outputs.now.departures) in
    let P : KeptLine → Type 0 = λ l. Answers es r (kept_request read c.args.octets.now l ∷ []) s t in
    subst P (sym c.in-Tc.is)
    (told_short es (tc_request (read (words_of (slice_range c.args.octets.now c.in-Tc.start c.in-Tc.end)))) p t.port s.store s.seen t.seen s.stamping (g.V.Write.contents c.args.outputs.now.report) (g.V.Write.contents c.put_tc.new.writer) (g.W.Write.contents c.args.outputs.now.departures) (silent_tc es (read (words_of (slice_range c.args.octets.now c.in-Tc.start c.in-Tc.end))) p) r e.1 (c.in_err-put_tc-in-Tc.ensures.answered read is).text)

pub returns-in_ok-put_tc-in-Tc-clause-answers : goal.returns-in_ok-put_tc-in-Tc-clause-answers
returns-in_ok-put_tc-in-Tc-clause-answers g c = λ read is es k.
    let s = state c.args.sending.now (g.V.Write.contents c.args.outputs.now.report) (g.W.Write.contents c.args.outputs.now.departures) in
    let p = s.port in
    let t = at c.put_tc.new.port.port s.store c.put_tc.new.summary s.stamping (g.V.Write.contents c.put_tc.new.writer) (g.W.Write.contents c.args.outputs.now.departures) in
    let P : KeptLine → Type 0 = λ l. Answers {T = Unit {0}} es (Ok tt) (kept_request read c.args.octets.now l ∷ []) s t in
    subst P (sym c.in-Tc.is)
    (told_line es (tc_request (read (words_of (slice_range c.args.octets.now c.in-Tc.start c.in-Tc.end)))) p t.port s.store s.seen t.seen s.stamping (g.V.Write.contents c.args.outputs.now.report) (g.V.Write.contents c.put_tc.new.writer) (g.W.Write.contents c.args.outputs.now.departures) (silent_tc es (read (words_of (slice_range c.args.octets.now c.in-Tc.start c.in-Tc.end))) p) tt (c.in_ok-put_tc-in-Tc.ensures.answered read is).text (c.in_ok-put_tc-in-Tc.ensures.answered read is).port (c.in_ok-put_tc-in-Tc.ensures.answered read is).seen k)

pub returns-in_ok-put_tc-in-Tc-clause-together : goal.returns-in_ok-put_tc-in-Tc-clause-together
returns-in_ok-put_tc-in-Tc-clause-together g c =
    let s = state c.args.sending.now (g.V.Write.contents c.args.outputs.now.report) (g.W.Write.contents c.args.outputs.now.departures) in
    let some = c.one_reader.ensures.some in
    let command = some.0 (words_of (slice_range c.args.octets.now c.in-Tc.start c.in-Tc.end)) in
    let es : Origin = record { entries = []; stamping = s.stamping } in
    told_together es (tc_request command) s.port c.put_tc.new.port.port s.store _ _ _ _ _ _ (silent_tc es command s.port) (c.in_ok-put_tc-in-Tc.ensures.answered some.0 some.1).port c.in_ok-put_tc-in-Tc.ensures.sound c.requires.together

pub returns-in-Clock-clause-together : goal.returns-in-Clock-clause-together
returns-in-Clock-clause-together g c = c.put_clock.ensures.together

pub returns-in_err-put_answers-in-Query-clause-together : goal.returns-in_err-put_answers-in-Query-clause-together
returns-in_err-put_answers-in-Query-clause-together g c = never _ (err_from_is_err_and c.from_residual.result c.from_residual.ensures.1).1

pub returns-in_err-put_answers-in-Count-clause-together : goal.returns-in_err-put_answers-in-Count-clause-together
returns-in_err-put_answers-in-Count-clause-together g c = never _ (err_from_is_err_and c.from_residual-in_err-put_answers-in-Count.result c.from_residual-in_err-put_answers-in-Count.ensures.1).1

pub returns-in_err-put_tc-in-Tc-clause-together : goal.returns-in_err-put_tc-in-Tc-clause-together
returns-in_err-put_tc-in-Tc-clause-together g c = never _ (err_from_is_err_and c.from_residual-in_err-put_tc-in-Tc.result c.from_residual-in_err-put_tc-in-Tc.ensures.1).1

pub put_clock-requires : goal.put_clock-requires
put_clock-requires g c =
    let P : KeptLine → Type 0 = λ l. IsKept c.args.octets.now l in
    (search, (subst P c.in-Clock.is c.requires.kept, c.requires.together))

pub put_answers-requires : goal.put_answers-requires
put_answers-requires g c = (search rules, search rules)

pub put_answers-requires-in-Count : goal.put_answers-requires-in-Count
put_answers-requires-in-Count g c = (search rules, search rules)

pub put_tc-requires : goal.put_tc-requires
put_tc-requires g c = (search rules, search rules)
