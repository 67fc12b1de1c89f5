use Rattle.std.proofs.Common.{ap, sym, ◌∙◌, subst, arith}
use Rattle.picture.specs.Words.{Filled, put, roomy}
use Rattle.picture.specs.Lanes.{IsLane}
use Rattle.picture.proofs.LaneLaws.{full_put, lane_roomy}
use Rattle.picture.proofs.lane.Lane.push.Goals as goal

pub invariant_of-self : goal.invariant_of-self
invariant_of-self g c =
    let xs = put c.self.inside.gap c.self.inside.shapes.items c.args.shape in
    let room = c.make_room-self-inside.ensures.room ∙ ap (roomy c.self.inside.gap) c.put.ensures.items in (
      subst IsLane (sym (ap (λ (l : Filled). l.shapes) room)) (lane_roomy c.self.inside.gap xs (full_put c.self.inside.gap c.self.inside.shapes.items c.args.shape c.self.invariant.0 c.requires)),
      omega (arith, c.self.invariant.1, c.put.ensures.capacity, c.make_room-self-inside.ensures.capacity),
    )
