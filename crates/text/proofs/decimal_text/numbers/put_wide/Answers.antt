use Rattle.std.proofs.Common.{sym, arith}
use Rattle.text.proofs.Decimal.{eight_after}
use Rattle.text.proofs.PlacedLaws.{Placed-is, Placed-then}
use Rattle.text.proofs.decimal_text.numbers.put_wide.Goals as goal

pub returns-clause-text : goal.returns-clause-text
returns-clause-text c =
    Placed-is (sym (eight_after c.args.front c.args.eight c.requires.some c.requires.eight (omega (arith, c.requires.front, c.requires.eight))))
    (Placed-then c.put_kept-middle.ensures.text c.put_eight.ensures)
