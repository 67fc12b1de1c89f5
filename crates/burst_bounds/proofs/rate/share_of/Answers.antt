use Rattle.std.proofs.Common.{◌≡◌, ◌*◌, subst, arith}
use Rattle.gates.specs.Gate.{in_ps}
use Rattle.burst_bounds.specs.Overload.{IsShare}
use Rattle.burst_bounds.proofs.ShareLaws.{always_is}
use Rattle.burst_bounds.proofs.rate.share_of.Goals as goal

pub returns-in-None-clause-share : goal.returns-in-None-clause-share
returns-in-None-clause-share c =
    let plan = c.args.schedule.now in
    let is = c.cycle_ns.ensures.value in
    let wide = c.from-cycle.ensures in
    let same : in_ps plan.cycle ≡ 1000 * c.from-cycle.result = omega (arith, is, wide) in
    subst (λ n. IsShare plan c.args.class c.args.need (record { slots = n; time = n * c.args.need })) same
    (always_is plan c.args.class c.args.need c.requires.sound c.in-None.ensures c.requires.need.0 c.requires.need.1)
