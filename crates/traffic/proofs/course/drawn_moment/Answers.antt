use Rattle.std.proofs.Common.{◌≤◌, ◌+◌, ◌-◌, ◌*◌, arith, sym, subst}
use Rattle.std.proofs.Math.Nat.{max-le, mul-le-mul_left}
use Rattle.wire_time.specs.Moment.{greatest_moment}
use Rattle.traffic.proofs.CourseLaws.{reached_within}
use Rattle.traffic.proofs.course.drawn_moment.Goals as goal

pub returns-clause-within : goal.returns-clause-within
returns-clause-within c =
    let course = c.args.course.now in
    let before : c.args.reached ≤ greatest_moment = subst (λ r. r ≤ greatest_moment) (sym c.requires.reached) (reached_within course c.args.come c.requires.fits (omega (arith, c.requires.few))) in
    let others : course.period * c.args.come ≤ course.period * (course.count - 1) = mul-le-mul_left course.period (omega (arith, c.requires.few)) in
    let on : course.period * c.from-2.result ≤ course.period * (course.count - 1) = subst (λ k. course.period * k ≤ course.period * (course.count - 1)) (sym c.from-2.ensures) others in
    let here : course.first + course.period * c.from-2.result + c.draw-late.result ≤ greatest_moment = omega (arith, on, c.draw-late.ensures.within, c.requires.fits.ends) in
    subst (λ m. m ≤ greatest_moment) (sym c.max.ensures) (max-le before here)
