use Rattle.std.proofs.Common.{◌+◌, ◌*◌, ap, ◌∙◌}
use Rattle.traffic.proofs.CourseLaws.{moment_exact}
use Rattle.traffic.proofs.course.moment_after.Goals as goal

pub returns-in-None-clause-moment : goal.returns-in-None-clause-moment
returns-in-None-clause-moment c =
    let course = c.args.course.now in
    ap (λ k. course.first + course.period * k) c.from.ensures ∙ moment_exact course c.args.come c.in-None.is
