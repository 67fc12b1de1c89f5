use Rattle.std.proofs.Common.{◌∷◌, [], sym, subst}
use Rattle.replay.specs.Taker.{Takes}
use Rattle.replay.specs.Words.{kept_request}
use Rattle.replay.specs.declared.by_events.ByEvents.{ByEvents}
use Rattle.replay.specs.declared.kept_script.KeptLine.{KeptLine}
use Rattle.replay.proofs.ByEventsLaws.{CutBy, TookBy, takes_so}
use Rattle.replay.proofs.by_events.ByEventsTaker.take_line.Goals as goal

pub returns-in-Clock-clause-taken : goal.returns-in-Clock-clause-taken
returns-in-Clock-clause-taken g c = λ read is es.
    let octets = c.args.octets.now in
    let s = c.args.self.now in
    let t : ByEvents _ = record { taker = c.take_event.new.self } in
    let P : KeptLine → Type 0 = λ l. Takes (TookBy (λ (b : ByEvents _). b.taker) g.T.EventTaker.took g.T.EventTaker.cut) (CutBy (λ (b : ByEvents _). b.taker) g.T.EventTaker.took g.T.EventTaker.cut) es (kept_request read octets l ∷ []) c.stopped.result s c.args.out.now c.args.watch.now t c.take_event.new.out c.take_event.new.watch in
    subst P (sym c.in-Clock.is) (takes_so (λ (b : ByEvents _). b.taker) g.T.EventTaker.took g.T.EventTaker.cut es _ c.take_event.result c.stopped.result s t _ _ _ _ c.stopped.ensures c.take_event.ensures)

pub returns-in-Query-clause-taken : goal.returns-in-Query-clause-taken
returns-in-Query-clause-taken g c = λ read is es.
    let octets = c.args.octets.now in
    let s = c.args.self.now in
    let t : ByEvents _ = record { taker = c.take_event-in-Query.new.self } in
    let P : KeptLine → Type 0 = λ l. Takes (TookBy (λ (b : ByEvents _). b.taker) g.T.EventTaker.took g.T.EventTaker.cut) (CutBy (λ (b : ByEvents _). b.taker) g.T.EventTaker.took g.T.EventTaker.cut) es (kept_request read octets l ∷ []) c.stopped-in-Query.result s c.args.out.now c.args.watch.now t c.take_event-in-Query.new.out c.take_event-in-Query.new.watch in
    subst P (sym c.in-Query.is) (takes_so (λ (b : ByEvents _). b.taker) g.T.EventTaker.took g.T.EventTaker.cut es _ c.take_event-in-Query.result c.stopped-in-Query.result s t _ _ _ _ c.stopped-in-Query.ensures c.take_event-in-Query.ensures)

pub returns-in-Count-clause-taken : goal.returns-in-Count-clause-taken
returns-in-Count-clause-taken g c = λ read is es.
    let octets = c.args.octets.now in
    let s = c.args.self.now in
    let t : ByEvents _ = record { taker = c.take_event-in-Count.new.self } in
    let P : KeptLine → Type 0 = λ l. Takes (TookBy (λ (b : ByEvents _). b.taker) g.T.EventTaker.took g.T.EventTaker.cut) (CutBy (λ (b : ByEvents _). b.taker) g.T.EventTaker.took g.T.EventTaker.cut) es (kept_request read octets l ∷ []) c.stopped-in-Count.result s c.args.out.now c.args.watch.now t c.take_event-in-Count.new.out c.take_event-in-Count.new.watch in
    subst P (sym c.in-Count.is) (takes_so (λ (b : ByEvents _). b.taker) g.T.EventTaker.took g.T.EventTaker.cut es _ c.take_event-in-Count.result c.stopped-in-Count.result s t _ _ _ _ c.stopped-in-Count.ensures c.take_event-in-Count.ensures)

pub returns-in-Tc-clause-taken : goal.returns-in-Tc-clause-taken
returns-in-Tc-clause-taken g c = λ read is es.
    let octets = c.args.octets.now in
    let s = c.args.self.now in
    let t : ByEvents _ = record { taker = c.take_tc.new.self } in
    let P : KeptLine → Type 0 = λ l. Takes (TookBy (λ (b : ByEvents _). b.taker) g.T.EventTaker.took g.T.EventTaker.cut) (CutBy (λ (b : ByEvents _). b.taker) g.T.EventTaker.took g.T.EventTaker.cut) es (kept_request read octets l ∷ []) c.stopped-in-Tc.result s c.args.out.now c.args.watch.now t c.take_tc.new.out c.take_tc.new.watch in
    subst P (sym c.in-Tc.is) (takes_so (λ (b : ByEvents _). b.taker) g.T.EventTaker.took g.T.EventTaker.cut es _ c.take_tc.result c.stopped-in-Tc.result s t _ _ _ _ c.stopped-in-Tc.ensures (c.take_tc.ensures read is))
