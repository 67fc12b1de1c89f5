use Rattle.std.proofs.Common.{◌≡◌, ◌+◌, ◌*◌, ◌<◌, ◌≤◌, ◌^◌, subst, arith}
use Rattle.picture.specs.Words.{greatest_moment}
use Rattle.picture.proofs.TickLaws.{Stepped, first_steps, next_steps, steps_fit}
use Rattle.picture.proofs.ticks.tick_step.Goals as goal

pub loop-step-init : goal.loop-step-init
loop-step-init c = first_steps c.args.length c.args.most

pub overflow_mul-step : goal.overflow_mul-step
overflow_mul-step c =
    let l : c.loop-step.step ≤ 2 * greatest_moment + 1 = omega (arith, c.loop-step.invariant.within, c.requires.within) in
    let m : c.from-most.result < 2 ^ 32 = omega (arith, c.from-most.ensures, c.ranges.most.fits) in
    omega (arith, steps_fit c.loop-step.step c.from-most.result l m)

pub loop-step-preserved : goal.loop-step-preserved
loop-step-preserved c =
    let d = c.from-most.ensures in
    let ten : 10 * c.loop-step.step ≡ c.loop-step.step * 10 = omega arith in
    subst (λ step. Stepped c.args.length c.args.most step) ten
    (next_steps c.args.length c.args.most c.loop-step.step c.requires.some c.loop-step.invariant (rw d at c.if-length-step.false) (rw d at c.if-length-step-2.false) (rw d at c.if-length-step-3.false))
