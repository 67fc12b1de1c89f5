use Rattle.std.proofs.Common.{◌≡◌, ◌+◌, ◌*◌, ◌/◌, ◌%◌, ◌∙◌, ap, sym, decimal, arith}
use Rattle.text.proofs.Decimal.{eight_after}
use Rattle.text.proofs.PlacedLaws.{Placed-is, Placed-then}
use Rattle.text.proofs.decimal_text.numbers.put_kept.Goals as goal

pub returns-clause-text : goal.returns-clause-text
returns-clause-text c =
    let front = c.args.number / 100000000 in
    let last = c.args.number % 100000000 in
    let whole : front * 100000000 + last ≡ c.args.number = omega arith in
    Placed-is (sym (eight_after front last (omega (arith, c.if-number-lt-EIGHT_DIGITS.false)) (omega arith) (omega (arith, c.requires.number))) ∙ ap decimal whole)
    (Placed-then c.put_few-middle.ensures.text c.put_eight.ensures)
