use Rattle.std.proofs.Common.{refl}
use Rattle.frame_table.proofs.WalkLaws.{rest_carries}
use Rattle.frame_table.proofs.tabled.TabledEventTaker.rests.Goals as goal

pub returns-clause-rests : goal.returns-clause-rests
returns-clause-rests g c = λ w h yes.
    let s = c.args.self.now in
    (refl, rest_carries g.H.Watch.alerted s.streams.now g.met.H.Watch.both g.met.H.Watch.nothing {T = Unit {0}} tt c.args.event.now s.port c.rests.new.port s.arrivals (g.W.Write.contents w) h (c.rests.ensures.rests yes))
