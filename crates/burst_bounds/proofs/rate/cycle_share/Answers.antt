use Rattle.std.proofs.Common.{◌≡◌, ◌<◌, ◌≤◌, ◌+◌, ℕ, suc, subst, arith}
use Rattle.gates.specs.Gate.{in_ps}
use Rattle.wire_time.specs.Moment.{greatest_moment}
use Rattle.delay_bounds.specs.Walk.{may_by}
use Rattle.any_traffic.specs.Slots.{IsSlot}
use Rattle.burst_bounds.proofs.ShareLaws.{cycle_is, ends, next_within, shareless}
use Rattle.burst_bounds.proofs.SlotLaws.{slot_then}
use Rattle.burst_bounds.proofs.rate.cycle_share.Goals as goal

pub returns-in-Err-next_slot-clause-why : goal.returns-in-Err-next_slot-clause-why
returns-in-Err-next_slot-clause-why c =
    let plan = c.args.schedule.now in
    let begin : ℕ = c.in-Ok.begin in
    let is = c.cycle_ns.ensures.value in
    let wide = c.from.ensures in
    let less : c.loop-at.at < begin + in_ps plan.cycle = (let l = c.loop-at-test.true in omega (arith, l, is, wide)) in
    let within = ends plan c.args.class c.args.need c.args.from begin c.requires.sound c.requires.need.0 c.requires.shut
    c.in-Ok.ensures.slot c.loop-at.slots c.loop-at.at c.loop-at.invariant.row less in
    let near = c.in-Ok.ensures.near in
    let length = c.requires.sound.cycle in
    let early = c.requires.from in
    let soon : c.loop-at.at + c.args.need ≤ greatest_moment = omega (arith, within, near, length, early) in
    shareless plan c.args.class c.args.need (c.loop-at.at + c.args.need) c.in-Err-next_slot.why soon c.in-Err-next_slot.ensures.why

pub loop-at-preserved : goal.loop-at-preserved
loop-at-preserved c =
    let plan = c.args.schedule.now in
    let begin : ℕ = c.in-Ok.begin in
    let next : ℕ = c.in-Ok-next_slot.next in
    let inv = c.loop-at.invariant in
    let is = c.cycle_ns.ensures.value in
    let wide = c.from.ensures in
    let less : c.loop-at.at < begin + in_ps plan.cycle = (let l = c.loop-at-test.true in omega (arith, l, is, wide)) in
    let told = c.in-Ok-next_slot.ensures in
    let within = next_within plan c.args.class c.args.need c.args.from begin c.requires.sound c.requires.need.0 c.requires.shut
    c.in-Ok.ensures.slot c.loop-at.slots c.loop-at.at next inv.row less told.slot in
    let low = (told.slot).from in
    let few = inv.few in
    let some = c.requires.need.0 in
    record {
      row = subst (λ n. IsSlot (may_by plan c.args.class) c.args.need c.args.from n next)
          (let e : suc c.loop-at.slots ≡ c.loop-at.slots + 1 = omega arith in e)
          (slot_then (may_by plan c.args.class) c.args.need c.args.from c.loop-at.slots c.loop-at.at next inv.row told.slot);
      within = omega (arith, within, is, wide);
      few = omega (arith, low, few, some);
      stood = (next, omega arith, told.placed);
    }

pub returns-clause-share : goal.returns-clause-share
returns-clause-share c =
    let plan = c.args.schedule.now in
    let begin : ℕ = c.in-Ok.begin in
    let inv = c.loop-at.invariant in
    let is = c.cycle_ns.ensures.value in
    let wide = c.from.ensures in
    let over = c.loop-at-test.false in
    let within = inv.within in
    let near = c.in-Ok.ensures.near in
    let length = c.requires.sound.cycle in
    let early = c.requires.from in
    let at : c.loop-at.at ≡ begin + in_ps plan.cycle = omega (arith, over, within, is, wide) in
    cycle_is plan c.args.class c.args.need c.args.from begin c.requires.sound c.requires.need.0 c.requires.shut c.in-Ok.ensures.slot
    c.loop-at.slots c.loop-at.at inv.row at (omega (arith, near, length, early))
