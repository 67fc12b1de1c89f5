use Rattle.std.proofs.Common.{◌≡◌, ◌≤◌, ◌<◌, ap, ◌∙◌, sym, length, take, Some, rules, arith}
use Rattle.std.proofs.lemmas.List.{take-take}
use Rattle.text.specs.Numbers.{value_behind}
use Rattle.text.proofs.FrontLaws.{at_front}
use Rattle.text.proofs.words.numbers.front_number.Goals as goal

pub returns-then-count-le8-clause-number : goal.returns-then-count-le8-clause-number
returns-then-count-le8-clause-number c =
    let octets = c.args.octets.now in
    let there : 16 ≤ length octets = search (rules, arith) in
    let front : c.in_ok-front.front.now ≡ take 16 octets = search rules in
    let some : 0 < c.digits_as_expected-count.result = search (rules, arith) in
    let same : c.digits_of.result ≡ c.from.result = search rules in
    at_front _ _ 16 octets _ _ some c.digits_as_expected-count.ensures.within there front (c.digits_of.ensures.value ∙ ap Some same) c.split_at.ensures.back

pub returns-then-count-lt-LANES-clause-number : goal.returns-then-count-lt-LANES-clause-number
returns-then-count-lt-LANES-clause-number c =
    let octets = c.args.octets.now in
    let there : 16 ≤ length octets = search (rules, arith) in
    let front : c.in_ok-front.front.now ≡ take 16 octets = search rules in
    let some : 0 < c.digits_as_expected-count.result = search (rules, arith) in
    let same : c.wide_digits-number.result ≡ c.from-then-count-lt-LANES.result = search rules in
    at_front _ _ 16 octets _ _ some c.digits_as_expected-count.ensures.within there front (c.wide_digits-number.ensures.value ∙ ap Some same) c.split_at.ensures.back

pub long_number-requires-clause-value : goal.long_number-requires-clause-value
long_number-requires-clause-value c =
    let octets = c.args.octets.now in
    let front : c.in_ok-front.front.now ≡ take 16 octets = search rules in
    let all : c.digits_as_expected-count.result ≡ 16 = omega (arith, c.if-count-lt-LANES.false, c.digits_as_expected-count.ensures.within) in
    ap (value_behind 10 0) (sym (take-take 16 16 octets (omega arith)) ∙ sym (ap (take 16) front) ∙ ap (λ k. take k c.in_ok-front.front.now) (sym all)) ∙ c.wide_digits-number.ensures.value
