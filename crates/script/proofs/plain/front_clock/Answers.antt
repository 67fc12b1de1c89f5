use Rattle.std.proofs.Common.{◌≤◌, rules, arith}
use Rattle.script.specs.Words.{greatest_moment}
use Rattle.script.proofs.FrontLaws.{clock_front}
use Rattle.script.proofs.plain.front_clock.Goals as goal

pub returns : goal.returns
returns c =
    let within : c.in_ok-moment.moment ≤ greatest_moment = search (rules, arith) in
    clock_front _ _ _ _ c.in_ok-moment.ensures.number c.in_ok-rest.ensures within
