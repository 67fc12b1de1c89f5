use Rattle.std.proofs.Common.{◌≡◌, ℕ, ◌+◌, ◌-◌, ◌*◌, subst, arith}
use Rattle.delay_bounds.specs.Walk.{may_by}
use Rattle.window_bounds.specs.Slots.{IsFreeBehind}
use Rattle.window_bounds.proofs.SendLaws.{row_behind, stays_each}
use Rattle.window_bounds.proofs.late_run.free_behind.Goals as goal

pub loop-left-preserved : goal.loop-left-preserved
loop-left-preserved c =
    let plan = c.args.schedule.now in
    let d : ℕ = c.args.need in
    let at : ℕ = c.in-Ok.at in
    let k : ℕ = c.in_a_row-frames.result in
    let told = c.in-Ok.ensures in
    let row = c.in_a_row-frames.ensures in
    let inv = c.loop-left.invariant in
    let few = inv.few in
    let some = row.some.0 in
    let within = row.some.1 in
    let soon = told.soon in
    let cycle = c.requires.sound.cycle in
    let short = row.short in
    let count : c.args.more - c.loop-left.left + k ≡ c.args.more - (c.loop-left.left - k) = omega (arith, few, within) in
    record {
      few = omega (arith, few);
      free = subst (λ n. IsFreeBehind (may_by plan c.args.class) d c.args.free n (at + k * d)) count
          (row_behind (may_by plan c.args.class) d c.args.free (c.args.more - c.loop-left.left) c.loop-left.later at k inv.free told.slot
          (stays_each plan c.args.class d at k row.fits) some);
      soon = λ _. omega (arith, soon, cycle, short);
      stood = (at, omega arith, told.placed);
    }
