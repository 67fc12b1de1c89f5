use Rattle.std.proofs.Common.{subst}
use Rattle.jumping.specs.Words.{Stands}
use Rattle.jumping.proofs.NearLaws.{alone_edge}
use Rattle.jumping.proofs.jumping_gates.move_on.Goals as goal

pub returns-then-is_alone-clause-edge : goal.returns-then-is_alone-clause-edge
returns-then-is_alone-clause-edge c =
    let none = c.is_alone.ensures.0 c.if-is_alone.true in
    let moved = c.move_alone-until.ensures in
    alone_edge c.args.slots.now.commands c.move_alone-until.new.self.commands c.args.t none.0 none.1 moved.value c.move_alone-until.new.self.position moved.sound moved.stands c.move_alone-until.result.0 moved.until moved.later

pub returns-then-is_alone-clause-next : goal.returns-then-is_alone-clause-next
returns-then-is_alone-clause-next c = λ e none only.
    let slots = c.args.slots.now in
    c.move_alone-until.ensures.next slots.commands.moment e (subst (λ q. Stands slots.commands.in_force q slots.commands.moment slots.position) ((c.is_alone.ensures.0 c.if-is_alone.true).0) c.requires.stands) only
