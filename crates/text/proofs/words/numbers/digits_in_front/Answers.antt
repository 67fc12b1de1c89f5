use Rattle.std.proofs.Common.{rules, arith}
use Rattle.text.proofs.LaneLaws.{are_wanted, within}
use Rattle.text.specs.Numbers.{is_digit}
use Rattle.text.proofs.words.numbers.digits_in_front.Goals as goal

pub returns-else-others-eq0-clause-within : goal.returns-else-others-eq0-clause-within
returns-else-others-eq0-clause-within c = within is_digit c.args.octets.now _ (search rules) c.others_in-others.ensures (omega (arith, c.if-others-eq0.false))

pub returns-else-others-eq0-clause-digits : goal.returns-else-others-eq0-clause-digits
returns-else-others-eq0-clause-digits c = are_wanted is_digit c.args.octets.now _ (search rules) c.others_in-others.ensures (omega (arith, c.if-others-eq0.false))
