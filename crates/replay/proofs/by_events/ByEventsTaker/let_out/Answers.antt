use Rattle.std.proofs.Common.{[]}
use Rattle.replay.specs.declared.by_events.ByEvents.{ByEvents}
use Rattle.replay.proofs.ByEventsLaws.{takes_so}
use Rattle.replay.proofs.by_events.ByEventsTaker.let_out.Goals as goal

pub returns-clause-taken : goal.returns-clause-taken
returns-clause-taken g c = λ es.
    takes_so (λ (b : ByEvents _). b.taker) g.T.EventTaker.took g.T.EventTaker.cut es [] c.waits.result c.stopped.result c.args.self.now (record { taker = c.waits.new.self }) _ _ _ _ c.stopped.ensures (c.waits.ensures c.args._watch.now)
