use Rattle.std.proofs.Common.{◌≡◌, cond, None, Some, sym, ap, ◌∙◌, rules}
use Rattle.std.proofs.lemmas.Bool.{le-leb, lt-leb}
use Rattle.text.specs.Numbers.{digit_in}
use Rattle.text.proofs.NumberWord.{one_digit}
use Rattle.text.proofs.words.numbers.digit_number.Goals as goal

pub returns-in_default-clause-number : goal.returns-in_default-clause-number
returns-in_default-clause-number c = one_digit c.args.most c.args.octet None (search rules)

pub returns-then-number-most-clause-number : goal.returns-then-number-most-clause-number
returns-then-number-most-clause-number c =
    let number = c.from-number.result in
    let is : digit_in 10 c.args.octet ≡ Some number = search rules in
    sym (ap (λ t. cond t (Some number) None) (lt-leb _ _ c.if-number-most.true)) ∙ one_digit c.args.most c.args.octet (Some number) is

pub returns-else-number-most-clause-number : goal.returns-else-number-most-clause-number
returns-else-number-most-clause-number c =
    let number = c.from-number.result in
    let is : digit_in 10 c.args.octet ≡ Some number = search rules in
    sym (ap (λ t. cond t (Some number) None) (le-leb _ _ c.if-number-most.false)) ∙ one_digit c.args.most c.args.octet (Some number) is
