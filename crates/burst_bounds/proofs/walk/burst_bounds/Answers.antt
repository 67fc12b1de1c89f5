use Rattle.std.proofs.Common.{subst, arith}
use Rattle.burst_bounds.specs.Overload.{IsOverloaded}
use Rattle.burst_bounds.proofs.TalkerLaws.{need_above, need_small}
use Rattle.burst_bounds.proofs.UnseenLaws.{unbound_of, unknown_of}
use Rattle.burst_bounds.proofs.walk.burst_bounds.Goals as goal

pub is_overloaded-requires-clause-need : goal.is_overloaded-requires-clause-need
is_overloaded-requires-clause-need g c =
    let is = c.longest_need-need.ensures in
    let low = need_above c.args.talkers.now c.requires.some c.requires.talkers in
    let high = need_small c.args.talkers.now c.requires.talkers in
    (omega (arith, is, low), omega (arith, is, high))

pub returns-in-Err-clause-why : goal.returns-in-Err-clause-why
returns-in-Err-clause-why g c =
    unknown_of c.args.schedule.now c.args.class c.longest_need-need.result c.args.limit c.args.talkers.now c.in-Err.why
    c.longest_need-need.ensures c.in-Err.ensures.why

pub returns-then-more-clause-why : goal.returns-then-more-clause-why
returns-then-more-clause-why g c =
    subst (λ d. IsOverloaded c.args.schedule.now c.args.class d c.args.talkers.now) c.longest_need-need.ensures
    (c.in-Ok.ensures.more c.if-more.true)

pub returns-clause-why : goal.returns-clause-why
returns-clause-why g c =
    unbound_of c.args.schedule.now c.args.class c.longest_need-need.result c.args.limit c.args.talkers.now c.bounds_within.result
    c.longest_need-need.ensures c.bounds_within.ensures.why
