use Rattle.std.proofs.Common.{◌∷◌, [], refl}
use Rattle.frame_table.specs.Words.{Asks, place}
use Rattle.frame_table.specs.declared.tabled.Tabled.{Tabled}
use Rattle.frame_table.proofs.TabledLaws.{taken}
use Rattle.frame_table.proofs.WalkLaws.{event_carries}
use Rattle.frame_table.proofs.tabled.TabledEventTaker.take_event.Goals as goal

pub returns : goal.returns
returns g c =
    let s = c.args.self.now in
    let t = record s { port = c.take_event.new.port; arrivals = c.take_event.new.arrivals } in
    let x = place s.port.port s.arrivals (g.W.Write.contents c.args.out.now) c.args.watch.now in
    let y = place t.port.port t.arrivals (g.W.Write.contents c.take_event.new.writer) c.take_event.new.watch in
    taken g.H.Watch.alerted (λ (s : Tabled _ _). s.streams.now) (λ (s : Tabled _ _) w h. place s.port.port s.arrivals (g.W.Write.contents w) h) (Asks c.args.event.now ∷ []) c.take_event.result s c.args.out.now c.args.watch.now t c.take_event.new.writer c.take_event.new.watch refl
    (event_carries g.H.Watch.alerted s.streams.now g.met.H.Watch.both c.take_event.result c.args.event.now x y c.take_event.ensures.text c.take_event.ensures.alerts c.take_event.ensures.after)
