use Rattle.claims.proofs.FlowArrivals.{other-frame}
use Rattle.claims.proofs.premises.bounds.take_next.Goals as goal

pub returns-then-arrive_offered-clause-other : goal.returns-then-arrive_offered-clause-other
returns-then-arrive_offered-clause-other g c =
    other-frame c.args.rate c.args.class c.args.change c.args.flow c.args.next c.args.event.now c.args.port.now.port c.in-Arrive.frame c.now-now.result c.behind.result
    (rw c.in-Arrive.is c.if-arrive_offered.ensures.offered) c.now-now.ensures.now c.behind.ensures.other
