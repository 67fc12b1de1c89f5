use Rattle.std.proofs.Common.{◌++◌, ◌∷◌, [], Err, Ok, Result, ap, sym, ◌∙◌, subst}
use Rattle.std.proofs.lemmas.Result.{err_from_is_err_and}
use Rattle.wire_time.specs.declared.Frame.{Frame}
use Rattle.replay.specs.ByEvents.{stops_sooner}
use Rattle.replay.specs.Taker.{Takes}
use Rattle.replay.specs.Words.{Asks, Stop, entry, frame_of}
use Rattle.replay.specs.declared.by_events.ByEvents.{ByEvents}
use Rattle.abstract_port.specs.declared.Event.TheVariants.{Arrive, Clock}
use Rattle.replay.proofs.ByEventsLaws.{CutBy, TookBy, takes_so, takes_then}
use Rattle.replay.proofs.by_events.ByEventsTaker.take_record.Goals as goal

pub returns-in_err-stopped-clause-taken : goal.returns-in_err-stopped-clause-taken
returns-in_err-stopped-clause-taken g c = λ es kept.
    let p = err_from_is_err_and c.from_residual.result c.from_residual.ensures.1 in
    let stop = c.in_err-stopped.field-0.0 in
    let s = c.args.self.now in
    let t : ByEvents _ = record { taker = c.take_event.new.self } in
    let clock = Asks (Clock c.args.moment) ∷ [] in
    let arrives = Asks (Arrive (frame_of (entry c.args.record.now) c.args.number)) ∷ [] in
    let here = takes_so (λ (b : ByEvents _). b.taker) g.T.EventTaker.took g.T.EventTaker.cut es clock c.take_event.result (Err stop) s t _ _ _ _ c.in_err-stopped.ensures c.take_event.ensures in
    subst (λ (x : Result (Unit {0}) Stop). Takes (TookBy (λ (b : ByEvents _). b.taker) g.T.EventTaker.took g.T.EventTaker.cut) (CutBy (λ (b : ByEvents _). b.taker) g.T.EventTaker.took g.T.EventTaker.cut) es (clock ++ arrives) x s c.args.out.now c.args.watch.now t c.take_event.new.out c.take_event.new.watch) (sym (p.1 ∙ ap Err p.2))
    (stops_sooner g.T.EventTaker.took g.T.EventTaker.cut clock arrives stop _ _ _ _ _ _ here)

pub returns-clause-taken : goal.returns-clause-taken
returns-clause-taken g c = λ es kept.
    let s = c.args.self.now in
    let t : ByEvents _ = record { taker = c.take_event.new.self } in
    let u : ByEvents _ = record { taker = c.take_event-2.new.self } in
    let clock = Asks (Clock c.args.moment) ∷ [] in
    let arrives = Asks (Arrive (frame_of (entry c.args.record.now) c.args.number)) ∷ [] in
    let here = takes_so (λ (b : ByEvents _). b.taker) g.T.EventTaker.took g.T.EventTaker.cut es clock c.take_event.result (Ok tt) s t _ _ _ _ c.in_ok-stopped.ensures c.take_event.ensures in
    let same = c.frame_of-frame.ensures ∙ ap (λ n. frame_of (entry c.args.record.now) n) c.from.ensures in
    let then = takes_so (λ (b : ByEvents _). b.taker) g.T.EventTaker.took g.T.EventTaker.cut es _ c.take_event-2.result c.stopped-2.result t u _ _ _ _ c.stopped-2.ensures c.take_event-2.ensures in
    let P : Frame → Type 0 = λ f. Takes (TookBy (λ (b : ByEvents _). b.taker) g.T.EventTaker.took g.T.EventTaker.cut) (CutBy (λ (b : ByEvents _). b.taker) g.T.EventTaker.took g.T.EventTaker.cut) es (Asks (Arrive f) ∷ []) c.stopped-2.result t c.take_event.new.out c.take_event.new.watch u c.take_event-2.new.out c.take_event-2.new.watch in
    takes_then (λ (b : ByEvents _). b.taker) g.T.EventTaker.took g.T.EventTaker.cut g.met.T.EventTaker.both g.met.T.EventTaker.cut_later es clock arrives c.stopped-2.result s t u _ _ _ _ _ _ here (subst P same then)
