use Rattle.std.proofs.Common.{sym}
use Rattle.std.proofs.lemmas.Fmt.{decimal_digit}
use Rattle.text.proofs.PlacedLaws.{Placed-is}
use Rattle.text.proofs.decimal_text.numbers.put_digit.Goals as goal

pub returns-clause-text : goal.returns-clause-text
returns-clause-text c = Placed-is (sym (decimal_digit c.args.number c.requires.digit)) c.put_text.ensures
