use Rattle.std.proofs.Common.{arith}
use Rattle.shared_bounds.proofs.WalkLaws.{walked_all, walked_next}
use Rattle.shared_bounds.proofs.place.SharedClass.bounds_of.Goals as goal

pub loop-from-preserved : goal.loop-from-preserved
loop-from-preserved g c =
    let it = c.args.self.now in
    let inv = c.loop-from.invariant in
    let within = c.loop-from-test.true in
    let wide = c.from-cycle.ensures in
    let value = c.cycle_ns.ensures.value in
    let soon = c.in-Ok-next_moment.ensures.soon in
    record {
      near = omega (arith, within, wide, value, soon);
      walked = λ curve read. walked_next it c.requires.place curve c.loop-from.from c.in-Ok-next_moment.next c.in-Ok.last c.args.moments.now
          c.loop-from.bounds c.with_moment.new.bounds read (inv.walked curve read) c.in-Ok.ensures.seen c.in-Ok-next_moment.ensures.near;
    }

pub returns-clause-found : goal.returns-clause-found
returns-clause-found g c = λ curve read.
    let past = c.loop-from-test.false in
    let wide = c.from-cycle.ensures in
    let value = c.cycle_ns.ensures.value in
    walked_all c.args.self.now c.requires.place curve c.loop-from.from c.loop-from.bounds (omega (arith, past, wide, value))
    (c.loop-from.invariant.walked curve read)
