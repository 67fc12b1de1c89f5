use Rattle.std.proofs.Common.{◌≡◌, ◌<◌, ◌^◌, ◌*◌, ◌+◌, cond, eqb, length, get_or, drop, false, None, Some, refl, sym, ap, ◌∙◌, rules, arith}
use Rattle.std.proofs.lemmas.Bool.{le-leb, lt-leb}
use Rattle.text.specs.Numbers.{digit_in, value_behind}
use Rattle.text.proofs.Digits.{at_known_digit, of_value, past_most, read_all}
use Rattle.text.proofs.words.numbers.number_in.Goals as goal

pub returns-in_err-digit-clause-number : goal.returns-in_err-digit-clause-number
returns-in_err-digit-clause-number c =
    let word = c.args.word.now in
    let is : digit_in c.args.base (get_or word c.loop-octet.octet-index 0) ≡ None = search rules in
    let r : c.from_residual.result ≡ None = search rules in
    r ∙ sym (of_value c.args.base c.args.most word None (c.loop-octet.invariant ∙ at_known_digit c.args.base c.loop-octet.number c.loop-octet.octet-index word None c.loop-octet-test.true is) refl)

pub loop-octet-preserved : goal.loop-octet-preserved
loop-octet-preserved c =
    let word = c.args.word.now in
    let is : digit_in c.args.base (get_or word c.loop-octet.octet-index 0) ≡ Some c.in_ok-digit.digit = search rules in
    let n : c.in_ok-number.number ≡ c.loop-octet.number * c.args.base + c.in_ok-digit.digit = search rules in
    c.loop-octet.invariant ∙ at_known_digit c.args.base c.loop-octet.number c.loop-octet.octet-index word (Some c.in_ok-digit.digit) c.loop-octet-test.true is ∙ ap (λ k. value_behind c.args.base k (drop (c.loop-octet.octet-index + 1) word)) (sym n)

pub returns-in_err-checked_mul-clause-number : goal.returns-in_err-checked_mul-clause-number
returns-in_err-checked_mul-clause-number c =
    let word = c.args.word.now in
    let is : digit_in c.args.base (get_or word c.loop-octet.octet-index 0) ≡ Some c.in_ok-digit.digit = search rules in
    let r : c.from_residual-in_err-checked_mul.result ≡ None = search rules in
    let same : c.from.result ≡ c.args.base = search rules in
    let large : (c.loop-octet.number * c.args.base < 2 ^ 128 → ⊥) = rw same at c.in_err-checked_mul.ensures in
    let over : c.args.most < c.loop-octet.number * c.args.base + c.in_ok-digit.digit = omega arith in
    r ∙ sym (past_most c.args.base c.args.most c.loop-octet.number c.in_ok-digit.digit c.loop-octet.octet-index word c.requires c.loop-octet-test.true c.loop-octet.invariant is over)

pub returns-in_err-number-clause-number : goal.returns-in_err-number-clause-number
returns-in_err-number-clause-number c =
    let word = c.args.word.now in
    let is : digit_in c.args.base (get_or word c.loop-octet.octet-index 0) ≡ Some c.in_ok-digit.digit = search rules in
    let r : c.from_residual-in_err-number.result ≡ None = search rules in
    let same : c.from.result ≡ c.args.base = search rules in
    let digit : c.from-in-loop-octet.result ≡ c.in_ok-digit.digit = search rules in
    let product : c.in_ok-checked_mul.field-0 ≡ c.loop-octet.number * c.args.base = search rules in
    let large : (c.loop-octet.number * c.args.base + c.in_ok-digit.digit < 2 ^ 128 → ⊥) = rw (product, digit) at c.in_err-number.ensures in
    let over : c.args.most < c.loop-octet.number * c.args.base + c.in_ok-digit.digit = omega arith in
    r ∙ sym (past_most c.args.base c.args.most c.loop-octet.number c.in_ok-digit.digit c.loop-octet.octet-index word c.requires c.loop-octet-test.true c.loop-octet.invariant is over)

pub returns-then-number-most-clause-number : goal.returns-then-number-most-clause-number
returns-then-number-most-clause-number c =
    let word = c.args.word.now in
    let some : eqb (length word) 0 ≡ false = search rules in
    sym (read_all c.args.base c.args.most c.loop-octet.number c.loop-octet.octet-index word some c.loop-octet-test.false c.loop-octet.invariant ∙ ap (λ t. cond t (Some c.loop-octet.number) None) (le-leb _ _ c.if-number-most.true))

pub returns-else-number-most-clause-number : goal.returns-else-number-most-clause-number
returns-else-number-most-clause-number c =
    let word = c.args.word.now in
    let some : eqb (length word) 0 ≡ false = search rules in
    sym (read_all c.args.base c.args.most c.loop-octet.number c.loop-octet.octet-index word some c.loop-octet-test.false c.loop-octet.invariant ∙ ap (λ t. cond t (Some c.loop-octet.number) None) (lt-leb _ _ c.if-number-most.false))
