use Rattle.std.proofs.Common.{inl, arith}
use Rattle.shared_bounds.proofs.ForLaws.{none_behind, none_left, sought_on}
use Rattle.shared_bounds.proofs.place.SharedClass.slot_for.Goals as goal

pub returns-then-slot-missing-clause-why : goal.returns-then-slot-missing-clause-why
returns-then-slot-missing-clause-why c =
    let it = c.args.self.now in
    let inv = c.loop-missing.invariant in
    inl (none_left it c.args.from c.requires.place c.args.frames c.args.limit c.loop-missing.missing c.loop-missing.slot inv.sought
    (inv.some c.loop-missing-test.true) c.if-slot-missing.true)

pub returns-in-Err-clause-why : goal.returns-in-Err-clause-why
returns-in-Err-clause-why c =
    none_behind c.args.self.now c.args.from c.args.frames c.args.limit c.loop-missing.slot c.in-Err.why c.loop-missing.invariant.sought
    c.in-Err.ensures.why

pub returns-clause-enough : goal.returns-clause-enough
returns-clause-enough c = (let no = c.loop-missing-test.false in c.loop-missing.invariant.none (omega (arith, no)))

pub loop-missing-preserved : goal.loop-missing-preserved
loop-missing-preserved c =
    let it = c.args.self.now in
    let inv = c.loop-missing.invariant in
    let told = c.in-Ok.ensures in
    record {
      sought = sought_on it c.args.from c.requires.place c.args.frames c.args.limit c.loop-missing.missing c.loop-missing.slot c.in-Ok.next
          inv.sought told.slot (inv.some c.loop-missing-test.true) c.if-slot-missing.false told.near;
      none = c.missing-missing-in-loop-missing.ensures.none;
      some = c.missing-missing-in-loop-missing.ensures.some;
      few = c.missing-missing-in-loop-missing.ensures.few;
    }
