use Rattle.std.proofs.Common.{◌≡◌, ℕ, ◌+◌, ◌-◌, max, subst, arith}
use Rattle.delay_bounds.specs.Walk.{may_by}
use Rattle.window_bounds.specs.Beats.{all_before}
use Rattle.window_bounds.specs.Slots.{HasSent}
use Rattle.window_bounds.specs.declared.late_run.Run.{Run}
use Rattle.window_bounds.proofs.SendLaws.{at_next, one_more, sent_next, slot_of}
use Rattle.window_bounds.proofs.late_run.send.Goals as goal

pub returns-then-come-from-clause-why : goal.returns-then-come-from-clause-why
returns-then-come-from-clause-why c = λ beats fine at.
    let may = may_by c.args.schedule.now c.args.class in
    let inv = c.loop-i.invariant in
    let free = c.loop-i.next.free in
    let slot = c.in-Ok.ensures.slot in
    let from = slot.from in
    let listed = c.loop-i-test.true in
    let here = at_next beats c.loop-i.aheads c.pass.new.beats free c.in-Ok.at c.loop-i.next.come c.pass.result c.saturating_add-come.result
    fine (omega (arith, from)) (inv.come beats fine at).0 c.pass.ensures.beats c.pass.ensures.count c.saturating_add-come.ensures in
    let come = here.come in
    let more = c.if-come-from.true in
    let is = c.from.ensures in (
      c.loop-i._i,
      c.in-Ok.at,
      listed,
      slot_of may c.args.need c.args.run.free c.loop-i._i free c.in-Ok.at inv.free slot,
      omega (arith, come, more, is),
    )

pub loop-i-preserved : goal.loop-i-preserved
loop-i-preserved c =
    let may = may_by c.args.schedule.now c.args.class in
    let inv = c.loop-i.invariant in
    let mid : Run = c.loop-i.next in
    let at : ℕ = c.in-Ok.at in
    let told = c.in-Ok.ensures in
    let first = told.slot in
    let from = first.from in
    let soon = told.soon in
    let cycle = c.requires.sound.cycle in
    let need = c.requires.need in
    let some = need.0 in
    let low = need.1 in
    let sent = inv.sent in
    let small = inv.small in
    let within = c.if-come-from.false in
    let limit = c.from.ensures in
    let limits = c.ranges.limit.fits in
    let less = c.saturating_sub.ensures in
    let most = c.max.ensures in
    let new : Run = record { sent = mid.sent + 1; free = at + c.args.need; come = c.saturating_add-come.result; most = c.max.result } in
    record {
      sent = omega (arith, sent);
      free = one_more may c.args.need c.args.run.free c.loop-i._i mid.free at inv.free first;
      soon = λ _. omega (arith, soon, cycle, low);
      stood = (at, omega arith, told.placed);
      fine = c.pass.ensures.fine;
      come = λ beats fine here.
          let old = inv.come beats fine here in
          let next = at_next beats c.loop-i.aheads c.pass.new.beats mid.free at mid.come c.pass.result c.saturating_add-come.result
          fine (omega (arith, from)) old.0 c.pass.ensures.beats c.pass.ensures.count c.saturating_add-come.ensures in
          let come = next.come in
          let exact : c.saturating_add-come.result ≡ all_before beats (at + 1) = omega (arith, come, within, limit, limits) in
          let is : c.max.result ≡ max (all_before beats (at + 1) - mid.sent) mid.most = omega (arith, exact, less, most) in (
            (at + 1, omega (arith, some), next),
            sent_next may c.args.need c.args.run.free c.loop-i._i c.args.limit beats c.args.run mid new at old.1
                (slot_of may c.args.need c.args.run.free c.loop-i._i mid.free at inv.free first) sent is (omega (arith, exact, within, limit)),
          );
      few = λ _. omega (arith, within, limit);
      small = λ le. (let old = small le in omega (arith, old, within, limit, less, most));
    }

pub returns-clause-come : goal.returns-clause-come
returns-clause-come c = λ beats fine here.
    let inv = c.loop-i.invariant in
    let old = inv.come beats fine here in
    let end = c.loop-i.auto._i-end in
    let done = c.loop-i-test.false in
    let e : c.loop-i._i ≡ c.args.due = omega (arith, end, done) in (
      old.0,
      subst (λ n. HasSent (may_by c.args.schedule.now c.args.class) c.args.need c.args.run.free n c.args.limit beats c.args.run c.loop-i.next) e
          old.1,
    )
