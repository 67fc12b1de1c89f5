use Rattle.std.proofs.Common.{◌≡◌, ap, ◌∙◌, sym, take, rules}
use Rattle.std.proofs.lemmas.List.{take-take}
use Rattle.text.specs.Numbers.{value_behind}
use Rattle.text.proofs.words.numbers.digits_of.Goals as goal

pub returns-in-Some-clause-value : goal.returns-in-Some-clause-value
returns-in-Some-clause-value c =
    let octets = c.args.octets.now in
    let front : c.in-Some.front.now ≡ take 8 octets = search rules in
    ap (value_behind 10 0) (sym (ap (take c.args.count) front ∙ take-take c.args.count 8 octets c.requires.few)) ∙ c.eight_digits.ensures.value
