use Rattle.frame_table.specs.Words.{place}
use Rattle.frame_table.proofs.TabledLaws.{stops_unwritten, takes_out}
use Rattle.frame_table.proofs.tabled.TabledEventTaker.waits.Goals as goal

pub returns-then-is_err : goal.returns-then-is_err
returns-then-is_err g c = λ h.
    let s = c.args.self.now in
    stops_unwritten g.H.Watch.alerted s.streams.now (place s.port.port s.arrivals (g.W.Write.contents c.args.out.now) h) (g.W.Write.contents c.flush.new.self) c.flush.ensures.bytes

pub returns : goal.returns
returns g c = λ h.
    let s = c.args.self.now in
    takes_out g.H.Watch.alerted s.streams.now (place s.port.port s.arrivals (g.W.Write.contents c.args.out.now) h) (g.W.Write.contents c.flush.new.self) c.flush.ensures.bytes
