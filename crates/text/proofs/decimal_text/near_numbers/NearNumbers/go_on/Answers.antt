use Rattle.std.proofs.Common.{◌≡◌, ◌<◌, ◌+◌, ◌-◌, ◌*◌, ◌%◌, ◌++◌, ◌∙◌, ap, sym, decimal, arith}
use Rattle.text.proofs.Decimal.{eight_after}
use Rattle.text.proofs.decimal_text.near_numbers.NearNumbers.go_on.Goals as goal

pub returns-clause-first : goal.returns-clause-first
returns-clause-first c = λ yes.
    let kept = c.args.self.now in
    ap decimal (c.requires ∙ kept.whole) ∙ eight_after kept.front kept.eight kept.some kept.small (omega (arith, kept.kept, kept.small)) ∙ ap (λ l. decimal kept.front ++ l) (sym kept.digits)

pub returns-clause-second : goal.returns-clause-second
returns-clause-second c = λ yes.
    let kept = c.args.self.now in
    let eight = (c.args.second + (340282366920938463463374607431768211456 - c.args.first)) % 340282366920938463463374607431768211456 + kept.eight in
    let small : eight < 100000000 = c.if-eight-ge-EIGHT_DIGITS.false in
    let whole : c.args.second ≡ kept.front * 100000000 + eight = omega (arith, c.requires, kept.whole, kept.kept, kept.small, c.if-gone-from.false, c.from.ensures, small) in
    ap decimal whole ∙ eight_after kept.front eight kept.some small (omega (arith, kept.kept, small)) ∙ ap (λ l. decimal kept.front ++ l) (sym c.all_digits-self.ensures)
