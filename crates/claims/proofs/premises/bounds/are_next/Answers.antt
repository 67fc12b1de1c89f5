use Rattle.std.proofs.Common.{refl}
use Rattle.std.proofs.lemmas.Bool.{false≢true}
use Rattle.claims.proofs.FlowArrivals.{next-end, next-first, next-on, next-other}
use Rattle.claims.proofs.premises.bounds.are_next.Goals as goal

pub loop-event-init : goal.loop-event-init
loop-event-init g c = (c.now-now.ensures.sound, next-first c.args.rate c.args.class c.args.change c.args.flow c.args.events.now _)

pub loop-event-preserved : goal.loop-event-preserved
loop-event-preserved g c = (
  c.in-Some.ensures.sound,
  next-on _ _ _ _ _ _ _ _ _ c.loop-event.invariant.1 _ c.loop-event.invariant.0 c.loop-event-test.true c.event-item.is _ _ c.in-Some.ensures.refused c.in-Some.ensures.next c.take_next.ensures.port,
)

pub returns-in-None : goal.returns-in-None
returns-in-None g c = (
  λ yes. absurd (false≢true yes),
  λ next. absurd (next-other _ _ _ _ _ _ _ _ _ c.loop-event.invariant.1 _ c.loop-event.invariant.0 c.loop-event-test.true c.event-item.is c.in-None.ensures.other next),
)

pub returns : goal.returns
returns g c = (λ yes. next-end _ _ _ _ _ _ _ _ _ c.loop-event.invariant.1 c.loop-event-test.false, λ next. refl)
