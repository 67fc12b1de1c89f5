use Rattle.std.proofs.Common.{◌≡◌, ap, ◌∙◌, sym, take, rules}
use Rattle.std.proofs.lemmas.List.{take-take}
use Rattle.text.specs.Numbers.{value_behind}
use Rattle.text.proofs.words.numbers.short_run.Goals as goal

pub returns-in-Some-clause-value : goal.returns-in-Some-clause-value
returns-in-Some-clause-value c =
    let n = c.array_run.result.1 in
    let octets = c.args.octets.now in
    let front : c.in-Some.front.now ≡ take 19 octets = search rules in
    ap (value_behind 10 0) (sym (ap (take n) front ∙ take-take n 19 octets c.array_run.ensures.few)) ∙ c.array_run.ensures.value
