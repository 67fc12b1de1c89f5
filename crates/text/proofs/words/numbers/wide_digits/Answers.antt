use Rattle.std.proofs.Common.{◌≡◌, ◌+◌, ◌-◌, ap, ◌∙◌, sym, take, rules, arith}
use Rattle.std.specs.List.{list_all}
use Rattle.text.specs.Numbers.{is_digit, value_behind}
use Rattle.text.proofs.DigitRunLaws.{cut_digits, joined_runs}
use Rattle.text.proofs.words.numbers.wide_digits.Goals as goal

pub digits_of-requires-clause-digits : goal.digits_of-requires-clause-digits
digits_of-requires-clause-digits c =
    let all : c.args.count - 8 + 8 ≡ c.args.count = omega (arith, c.requires.some) in
    (cut_digits (c.args.count - 8) 8 c.args.octets.now (ap (λ k. list_all is_digit (take k c.args.octets.now)) all ∙ c.requires.digits)).0

pub digits_of-requires-2-clause-digits : goal.digits_of-requires-2-clause-digits
digits_of-requires-2-clause-digits c =
    let all : c.args.count - 8 + 8 ≡ c.args.count = omega (arith, c.requires.some) in
    ap (λ xs. list_all is_digit (take 8 xs)) c.split_at.ensures.back
    ∙ (cut_digits (c.args.count - 8) 8 c.args.octets.now (ap (λ k. list_all is_digit (take k c.args.octets.now)) all ∙ c.requires.digits)).1

pub returns-clause-value : goal.returns-clause-value
returns-clause-value c =
    let octets = c.args.octets.now in
    let all : c.args.count - 8 + 8 ≡ c.args.count = omega (arith, c.requires.some) in
    ap (λ k. value_behind 10 0 (take k octets)) (sym all)
    ∙ joined_runs _ _ (c.args.count - 8) 8 octets (search (rules, arith)) c.digits_of.ensures.value (ap (λ xs. value_behind 10 0 (take 8 xs)) (sym c.split_at.ensures.back) ∙ c.digits_of-2.ensures.value)
