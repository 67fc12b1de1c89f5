use Rattle.std.proofs.Common.{rules, ◌≡◌, ◌&&◌}
use Rattle.abstract_port.proofs.RunLaws.{timely-sound}
use Rattle.claims.proofs.Kept.{runs-on}
use Rattle.claims.proofs.premises.apart.is_kept_apart.Goals as goal
use Rattle.claims.proofs.premises.apart.is_kept_apart.Goals.{then-apart, else-apart}

pub loop-event-preserved : goal.loop-event-preserved
loop-event-preserved g c =
    let both : c.if-apart.apart ≡ (c.loop-event.apart && c.take_apart-here.result) = elim c.if-apart.branch [ then-apart w ↦ search rules | else-apart w ↦ search rules ] in (
      c.take_apart-here.ensures.sound,
      runs-on _ _ _ _ _ _ _ _ _ _ (timely-sound _ c.now-now.ensures.sound) c.loop-event.invariant.1 c.loop-event-test.true c.event-item.is c.take_apart-here.ensures.apart c.take_apart-here.ensures.port both,
    )
