use Rattle.std.proofs.Common.{◌≡◌, ◌≤◌, ◌<◌, length, take, rules, arith}
use Rattle.text.proofs.FrontLaws.{at_front}
use Rattle.text.proofs.words.numbers.front_short.Goals as goal

pub returns-clause-number : goal.returns-clause-number
returns-clause-number c =
    let octets = c.args.octets.now in
    let there : 16 ≤ length octets = search (rules, arith) in
    let front : c.in_ok-front.front.now ≡ take 16 octets = search rules in
    let some : 0 < c.digits_in_front-count.result = search (rules, arith) in
    at_front _ _ 16 octets _ _ some c.digits_in_front-count.ensures.within there front c.digits_of.ensures.value c.split_at.ensures.back
