use Rattle.std.proofs.Common.{◌≡◌, [], Ok, Err, None, ◌⊎◌, inl, inr, rules, refl, sym, ap, ◌∙◌}
use Rattle.std.proofs.lemmas.Result.{err_from_is_err_and}
use Rattle.replay.specs.Words.{AbstractPort, after_arrival, arrival_answer, kept, noted, State, state}
use Rattle.abstract_port.specs.AbstractPort.{class_for}
use Rattle.replay.specs.declared.faults.Stop.TheVariants as Stops
use Rattle.replay.proofs.ArrivalLaws.{dropped_queues, dropped_room, has_room, keeps-put, together-put}
use Rattle.replay.specs.Sends.{both_none, both_stop, never, of_error, report_short, report_whole}
use Rattle.replay.proofs.StartLaws.{still_keeps, still_together}
use Rattle.replay.proofs.TellLaws.{arrival_told, arrived}
use Rattle.replay.proofs.sender.put_arrival.Goals as goal

pub put-requires : goal.put-requires
put-requires g c =
    let s = state c.args.sending.now (g.V.Write.contents c.args.report.now) None in
    (search rules, (c.in-Ok.ensures.within, (has_room s c.in-Ok.class c.requires.together c.in-Ok.ensures.room, c.requires.size)))

pub returns-in_err-put-in-Ok-clause-answers : goal.returns-in_err-put-in-Ok-clause-answers
returns-in_err-put-in-Ok-clause-answers g c = λ es captured is k.
    let p = err_from_is_err_and c.from_residual.result c.from_residual.ensures.1 in
    record { port = never _ p.1; keeps = never _ p.1; seen = never _ p.1; out = both_stop c.from_residual.result p.1 (both_none _ _) }

pub returns-in_err-put_noted_queued-in-Ok-clause-answers : goal.returns-in_err-put_noted_queued-in-Ok-clause-answers
returns-in_err-put_noted_queued-in-Ok-clause-answers g c = λ es captured is k.
    let r = c.from_residual-in_err-put_noted_queued-in-Ok.result in
    let p = err_from_is_err_and r c.from_residual-in_err-put_noted_queued-in-Ok.ensures.1 in
    let s = state c.args.sending.now (g.V.Write.contents c.args.report.now) captured in
    let t : State = record { port = c.arrive.new.self.port; store = c.put.new.self; seen = c.put_noted_queued.new.summary; stamping = s.stamping; got = record { report = g.V.Write.contents c.put_noted_queued.new.report; departures = captured } } in
    arrival_told r es c.args.frame (Ok c.in-Ok.class) s t (sym c.in-Ok.is ∙ c.arrive.ensures.answer) (never _ p.1) (never _ p.1) (never _ p.1)
    (report_short r captured [] p.1 c.in_err-put_noted_queued-in-Ok.ensures.text)

pub returns-in_err-put_noted_arrival-in-Err-clause-answers : goal.returns-in_err-put_noted_arrival-in-Err-clause-answers
returns-in_err-put_noted_arrival-in-Err-clause-answers g c = λ es captured is k.
    let r = c.from_residual-in_err-put_noted_arrival-in-Err.result in
    let p = err_from_is_err_and r c.from_residual-in_err-put_noted_arrival-in-Err.ensures.1 in
    let s = state c.args.sending.now (g.V.Write.contents c.args.report.now) captured in
    let t : State = record { port = c.arrive.new.self.port; store = s.store; seen = c.put_noted_arrival.new.summary; stamping = s.stamping; got = record { report = g.V.Write.contents c.put_noted_arrival.new.report; departures = captured } } in
    arrival_told r es c.args.frame (Err c.in-Err.why) s t (sym c.in-Err.is ∙ c.arrive.ensures.answer) (never _ p.1) (never _ p.1) (never _ p.1)
    (report_short r captured [] p.1 c.in_err-put_noted_arrival-in-Err.ensures.text)

pub returns-in_ok-put_noted_queued-in-Ok-clause-together : goal.returns-in_ok-put_noted_queued-in-Ok-clause-together
returns-in_ok-put_noted_queued-in-Ok-clause-together g c =
    let s = state c.args.sending.now (g.V.Write.contents c.args.report.now) None in
    let t : State = record { port = c.arrive.new.self.port; store = c.put.new.self; seen = c.put_noted_queued.new.summary; stamping = s.stamping; got = record { report = g.V.Write.contents c.put_noted_queued.new.report; departures = None } } in
    let after = c.arrive.ensures.port ∙ ap (λ v. after_arrival s.port c.args.frame v) c.in-Ok.is in
    together-put s t c.in-Ok.class c.args.frame (kept c.args.original c.args.octets.now) (ap (λ (x : AbstractPort). x.queues) after) (ap (λ (x : AbstractPort). x.room) after) c.in_ok-put-in-Ok.ensures.ok c.arrive.ensures.sound c.requires.together

pub returns-in_ok-put_noted_queued-in-Ok-clause-answers : goal.returns-in_ok-put_noted_queued-in-Ok-clause-answers
returns-in_ok-put_noted_queued-in-Ok-clause-answers g c = λ es captured is k.
    let s = state c.args.sending.now (g.V.Write.contents c.args.report.now) captured in
    let t : State = record { port = c.arrive.new.self.port; store = c.put.new.self; seen = c.put_noted_queued.new.summary; stamping = s.stamping; got = record { report = g.V.Write.contents c.put_noted_queued.new.report; departures = captured } } in
    let after = c.arrive.ensures.port ∙ ap (λ v. after_arrival s.port c.args.frame v) c.in-Ok.is in
    arrival_told (Ok tt) es c.args.frame (Ok c.in-Ok.class) s t (sym c.in-Ok.is ∙ c.arrive.ensures.answer)
    (arrived s.port t.port c.args.frame _ (Ok c.in-Ok.class) c.arrive.ensures.port c.in-Ok.is c.arrive.ensures.sound)
    (keeps-put s t c.in-Ok.class c.args.frame (kept c.args.original c.args.octets.now) (ap (λ (x : AbstractPort). x.queues) after) (ap (λ (x : AbstractPort). x.room) after) c.in_ok-put-in-Ok.ensures.ok es is refl k)
    (c.in_ok-put_noted_queued-in-Ok.ensures.seen ∙ ap (λ n. noted n (arrival_answer c.args.frame (Ok c.in-Ok.class)) s.seen) c.now-came.ensures.now)
    (report_whole tt captured c.in_ok-put_noted_queued-in-Ok.ensures.text)

pub returns-in_ok-put_noted_arrival-in-Err-clause-together : goal.returns-in_ok-put_noted_arrival-in-Err-clause-together
returns-in_ok-put_noted_arrival-in-Err-clause-together g c =
    let s = state c.args.sending.now (g.V.Write.contents c.args.report.now) None in
    let t : State = record { port = c.arrive.new.self.port; store = s.store; seen = c.put_noted_arrival.new.summary; stamping = s.stamping; got = record { report = g.V.Write.contents c.put_noted_arrival.new.report; departures = None } } in
    let after = c.arrive.ensures.port ∙ ap (λ v. after_arrival s.port c.args.frame v) c.in-Err.is in
    let class = class_for s.port c.args.frame.priority in
    still_together s t (ap (λ (x : AbstractPort). x.queues) after ∙ dropped_queues s.port c.in-Err.why class) (ap (λ (x : AbstractPort). x.room) after ∙ dropped_room s.port c.in-Err.why class) refl c.arrive.ensures.sound c.requires.together

pub returns-in_ok-put_noted_arrival-in-Err-clause-answers : goal.returns-in_ok-put_noted_arrival-in-Err-clause-answers
returns-in_ok-put_noted_arrival-in-Err-clause-answers g c = λ es captured is k.
    let s = state c.args.sending.now (g.V.Write.contents c.args.report.now) captured in
    let t : State = record { port = c.arrive.new.self.port; store = s.store; seen = c.put_noted_arrival.new.summary; stamping = s.stamping; got = record { report = g.V.Write.contents c.put_noted_arrival.new.report; departures = captured } } in
    let after = c.arrive.ensures.port ∙ ap (λ v. after_arrival s.port c.args.frame v) c.in-Err.is in
    let class = class_for s.port c.args.frame.priority in
    arrival_told (Ok tt) es c.args.frame (Err c.in-Err.why) s t (sym c.in-Err.is ∙ c.arrive.ensures.answer)
    (arrived s.port t.port c.args.frame _ (Err c.in-Err.why) c.arrive.ensures.port c.in-Err.is c.arrive.ensures.sound)
    (still_keeps es s t (ap (λ (x : AbstractPort). x.queues) after ∙ dropped_queues s.port c.in-Err.why class) refl refl k)
    (c.in_ok-put_noted_arrival-in-Err.ensures.seen ∙ ap (λ n. noted n (arrival_answer c.args.frame (Err c.in-Err.why)) s.seen) c.now-came.ensures.now)
    (report_whole tt captured c.in_ok-put_noted_arrival-in-Err.ensures.text)

pub returns-in_err-put_noted_queued-in-Ok-clause-fault : goal.returns-in_err-put_noted_queued-in-Ok-clause-fault
returns-in_err-put_noted_queued-in-Ok-clause-fault g c =
    let r = c.from_residual-in_err-put_noted_queued-in-Ok.result in
    let p = err_from_is_err_and r c.from_residual-in_err-put_noted_queued-in-Ok.ensures.1 in
    of_error r Stops.Write (λ fault. (fault ≡ Stops.Write) ⊎ (fault ≡ Stops.Memory)) (p.1 ∙ ap Err p.2) (inl refl)

pub returns-in_err-put_noted_arrival-in-Err-clause-fault : goal.returns-in_err-put_noted_arrival-in-Err-clause-fault
returns-in_err-put_noted_arrival-in-Err-clause-fault g c =
    let r = c.from_residual-in_err-put_noted_arrival-in-Err.result in
    let p = err_from_is_err_and r c.from_residual-in_err-put_noted_arrival-in-Err.ensures.1 in
    of_error r Stops.Write (λ fault. (fault ≡ Stops.Write) ⊎ (fault ≡ Stops.Memory)) (p.1 ∙ ap Err p.2) (inl refl)

pub returns-in_err-put-in-Ok-clause-together : goal.returns-in_err-put-in-Ok-clause-together
returns-in_err-put-in-Ok-clause-together g c = never _ (err_from_is_err_and c.from_residual.result c.from_residual.ensures.1).1

pub returns-in_err-put_noted_queued-in-Ok-clause-together : goal.returns-in_err-put_noted_queued-in-Ok-clause-together
returns-in_err-put_noted_queued-in-Ok-clause-together g c = never _ (err_from_is_err_and c.from_residual-in_err-put_noted_queued-in-Ok.result c.from_residual-in_err-put_noted_queued-in-Ok.ensures.1).1

pub returns-in_err-put_noted_arrival-in-Err-clause-together : goal.returns-in_err-put_noted_arrival-in-Err-clause-together
returns-in_err-put_noted_arrival-in-Err-clause-together g c = never _ (err_from_is_err_and c.from_residual-in_err-put_noted_arrival-in-Err.result c.from_residual-in_err-put_noted_arrival-in-Err.ensures.1).1

pub returns-in_err-put-in-Ok-clause-fault : goal.returns-in_err-put-in-Ok-clause-fault
returns-in_err-put-in-Ok-clause-fault g c =
    let p = err_from_is_err_and c.from_residual.result c.from_residual.ensures.1 in
    of_error c.from_residual.result Stops.Memory (λ fault. (fault ≡ Stops.Write) ⊎ (fault ≡ Stops.Memory)) (p.1 ∙ ap Err p.2) (inr refl)

pub returns-in_ok-put_noted_queued-in-Ok-clause-fault : goal.returns-in_ok-put_noted_queued-in-Ok-clause-fault
returns-in_ok-put_noted_queued-in-Ok-clause-fault g c = tt

pub returns-in_ok-put_noted_arrival-in-Err-clause-fault : goal.returns-in_ok-put_noted_arrival-in-Err-clause-fault
returns-in_ok-put_noted_arrival-in-Err-clause-fault g c = tt
