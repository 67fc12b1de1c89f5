use Rattle.std.proofs.Common.{◌+◌, ◌-◌, ◌/◌, take, ap, sym, ◌∙◌, subst}
use lib.Count.{count_trailing_zeros}
use Rattle.text.proofs.FrontDigits.{IsFront, front_text}
use Rattle.text.proofs.decimal_text.digits.front_digits.Goals as goal

pub returns-clause-text : goal.returns-clause-text
returns-clause-text c =
    let count = 8 - count_trailing_zeros 64 (c.eight_digits-digits.result + 72057594037927936) / 8 in
    ap (take count) c.to_le_bytes-octets.ensures ∙ subst (λ word. IsFront word c.args.number) (sym c.eight_digits-digits.ensures) (front_text c.args.number c.requires)
