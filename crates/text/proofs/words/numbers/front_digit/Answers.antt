use Rattle.std.proofs.Common.{◌≡◌, ◌≤◌, length, get_or, Some, ap, ◌∙◌, rules, arith}
use Rattle.text.specs.Numbers.{digit_in}
use Rattle.text.proofs.Digits.{no_digits, run_more}
use Rattle.text.proofs.FrontLaws.{begins}
use Rattle.text.proofs.words.numbers.front_digit.Goals as goal

pub returns-in_ok-digit-in-32-clause-number : goal.returns-in_ok-digit-in-32-clause-number
returns-in_ok-digit-in-32-clause-number c =
    let octets = c.args.octets.now in
    let digit = c.in_ok-digit-in-32.digit in
    let there : 1 ≤ length octets = search (rules, arith) in
    let is : digit_in 10 (get_or octets 0 0) ≡ Some digit = search rules in
    begins 1 digit octets _ (omega arith) there (run_more 0 digit 0 octets (omega arith) (no_digits 0) is ∙ ap Some (omega arith)) c.split_at.ensures.back
