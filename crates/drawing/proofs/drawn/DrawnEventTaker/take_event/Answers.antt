use Rattle.std.proofs.Common.{refl}
use Rattle.drawing.specs.Words.{Asks}
use Rattle.drawing.proofs.WalkLaws.{draws_one}
use Rattle.drawing.proofs.drawn.DrawnEventTaker.take_event.Goals as goal

pub returns : goal.returns
returns g c =
    let t = c.take_asked.ensures in
    draws_one (Asks c.args.event.now) _ _ (record { port = t.port; course = t.course; bands = t.bands; sound = t.sound }) refl refl
