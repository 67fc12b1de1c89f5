use Rattle.burst_bounds.proofs.RateLaws.{overloaded_by}
use Rattle.burst_bounds.proofs.rate.is_overloaded.Goals as goal

pub returns-clause-more : goal.returns-clause-more
returns-clause-more g c = λ yes.
    let share = c.in-Ok.share in
    let is = c.in-Ok.ensures.share in
    let found = c.is_more.ensures yes in
    overloaded_by c.args.schedule.now c.args.class c.args.need share.slots share.time is.cycles found.0 c.args.talkers.now
    c.requires.sound.plan_is.cycle is.takes is.whole found.1
