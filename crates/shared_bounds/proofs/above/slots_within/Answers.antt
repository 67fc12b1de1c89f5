use Rattle.std.proofs.Common.{◌≡◌, ℕ, min, ap, ◌∙◌, arith}
use Rattle.any_traffic.specs.SharedSlots.{slots_of}
use Rattle.any_traffic.specs.SlotCurve.{slot_curve}
use Rattle.burst_bounds.specs.Talkers.{flows_of}
use Rattle.burst_bounds.specs.Walk.{talker_at}
use Rattle.shared_bounds.proofs.TrafficLaws.{slots_more}
use Rattle.shared_bounds.proofs.above.slots_within.Goals as goal

pub loop-talker-preserved : goal.loop-talker-preserved
loop-talker-preserved c =
    let inv = c.loop-talker.invariant in
    let least = c.min-slots.ensures in
    let need : ℕ = (talker_at c.args.talkers.now c.loop-talker.talker-index).need in
    let turned : min need c.args.need ≡ min c.args.need need = omega arith in
    let each = c.slots_for-each.ensures.slots ∙ ap (λ d. slots_of d c.args.pitch) (c.min.ensures ∙ turned) in (
      omega (arith, least),
      slots_more c.args.need c.args.pitch c.args.talkers.now c.loop-talker.talker-index c.args.time c.args.limit c.loop-talker.slots
          c.slots_for-each.result c.min-frames.result c.min-slots.result
          (min (slot_curve c.args.need c.args.pitch (flows_of c.args.talkers.now) c.args.time) c.args.limit)
          c.loop-talker-test.true inv.1 each c.min-frames.ensures c.min-slots.ensures,
    )
