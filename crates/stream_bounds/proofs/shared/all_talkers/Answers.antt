use Rattle.std.proofs.Common.{All}
use Rattle.burst_bounds.specs.Talkers.{IsTalker}
use Rattle.stream_bounds.specs.Classes.{IsShort}
use Rattle.stream_bounds.proofs.SharedLaws.{all_eight_in}
use Rattle.stream_bounds.proofs.shared.all_talkers.Goals as goal

pub returns-clause-fit : goal.returns-clause-fit
returns-clause-fit c = all_eight_in (All IsTalker) _ _ _ _ _ _ _ _
    c.in_ok-talkers_beside.ensures.fit c.in_ok-talkers_beside-2.ensures.fit c.in_ok-talkers_beside-3.ensures.fit c.in_ok-talkers_beside-4.ensures.fit c.in_ok-talkers_beside-5.ensures.fit c.in_ok-talkers_beside-6.ensures.fit c.in_ok-talkers_beside-7.ensures.fit c.in_ok-talkers_beside-8.ensures.fit

pub returns-clause-short : goal.returns-clause-short
returns-clause-short c = all_eight_in (All IsShort) _ _ _ _ _ _ _ _
    c.in_ok-talkers_beside.ensures.short c.in_ok-talkers_beside-2.ensures.short c.in_ok-talkers_beside-3.ensures.short c.in_ok-talkers_beside-4.ensures.short c.in_ok-talkers_beside-5.ensures.short c.in_ok-talkers_beside-6.ensures.short c.in_ok-talkers_beside-7.ensures.short c.in_ok-talkers_beside-8.ensures.short
