use Rattle.std.proofs.Common.{refl}
use Rattle.frame_table.specs.Words.{place, words_of}
use Rattle.frame_table.proofs.WalkLaws.{tc_carries}
use Rattle.frame_table.proofs.tabled.TabledEventTaker.take_tc.Goals as goal

pub returns : goal.returns
returns g c = λ read is.
    let s = c.args.self.now in
    let x = place s.port.port s.arrivals (g.W.Write.contents c.args._out.now) c.args.watch.now in
    let y = place c.take_tc.new.port.port s.arrivals (g.W.Write.contents c.args._out.now) c.take_tc.new.watch in
    (refl, tc_carries g.H.Watch.alerted s.streams.now g.met.H.Watch.both {T = Unit {0}} tt (read (words_of c.args.line.now)) x y (c.take_tc.ensures.port read is) refl refl (c.take_tc.ensures.alerts read is) c.take_tc.ensures.sound)
