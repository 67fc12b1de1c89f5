use Rattle.std.proofs.Common.{◌≤◌, subst}
use Rattle.text.proofs.HexLemmas.{tabled, tabled_digit, tabled_dark}
use Rattle.text.proofs.words.numbers.hex_digit.Goals as goal

pub returns-clause-digit : goal.returns-clause-digit
returns-clause-digit c =
    let few : tabled c.args.octet ≤ 15 = subst (λ n. tabled n ≤ 15) c.from.ensures c.if-digit-gt15.false in
    rw c.from.ensures (tabled_digit c.args.octet c.ranges.octet.fits few)

pub returns-clause-dark : goal.returns-clause-dark
returns-clause-dark c =
    let few : tabled c.args.octet ≤ 15 = subst (λ n. tabled n ≤ 15) c.from.ensures c.if-digit-gt15.false in
    tabled_dark c.args.octet c.ranges.octet.fits few
