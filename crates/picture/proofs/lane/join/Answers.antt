use Rattle.picture.specs.Words.{are_joined}
use Rattle.picture.proofs.LaneLaws.{joins_on, stands_on, all_joined}
use Rattle.picture.proofs.lane.join.Goals.{then-are_joined, else-are_joined}
use Rattle.picture.proofs.lane.join.Goals as goal

pub loop-next-preserved : goal.loop-next-preserved
loop-next-preserved c =
    let j = c.loop-next.invariant in
    let test = are_joined c.args.gap c.args.only_short in
    elim c.if-are_joined.branch [
      | then-are_joined w ↦
          rw (w.shapes-is, w.last-is, w.joined.ensures)
          (joins_on test c.args.shapes.now c.loop-next.shapes c.loop-next.last c.loop-next.next j c.loop-next-test.true (rw c.are_joined.ensures at w.if-are_joined.true))
      | else-are_joined w ↦
          rw (w.shapes-is, w.last-is)
          (stands_on test c.args.shapes.now c.loop-next.shapes c.loop-next.last c.loop-next.next j c.loop-next-test.true (rw c.are_joined.ensures at w.if-are_joined.false))
    ]

pub returns-clause-joined : goal.returns-clause-joined
returns-clause-joined c =
    all_joined (are_joined c.args.gap c.args.only_short) c.args.shapes.now c.loop-next.shapes c.loop-next.last c.loop-next.next c.loop-next.invariant c.loop-next-test.false
