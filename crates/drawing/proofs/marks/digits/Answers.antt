use Rattle.std.proofs.Common.{arith}
use Rattle.std.proofs.lemmas.Fmt.{length-decimal-le_wide}
use Rattle.drawing.proofs.DigitLaws.{digit_more, one_digit, some_digit}
use Rattle.drawing.proofs.marks.digits.Goals as goal

pub returns-then-rest-lt10-clause-value : goal.returns-then-rest-lt10-clause-value
returns-then-rest-lt10-clause-value c =
    let i = c.loop-count.invariant in
    let one = one_digit c.loop-count.rest c.if-rest-lt10.true in
    omega (arith, i, one)

pub loop-count-preserved : goal.loop-count-preserved
loop-count-preserved c =
    let i = c.loop-count.invariant in
    let large = c.if-rest-lt10.false in
    let more = digit_more c.loop-count.rest (omega (arith, large)) (omega arith) in
    omega (arith, i, more)

pub returns-clause-value : goal.returns-clause-value
returns-clause-value c =
    let i = c.loop-count.invariant in
    let some = some_digit c.loop-count.rest (omega arith) in
    let few = length-decimal-le_wide 39 c.args.number (omega arith) (omega arith) (omega arith) in
    let ended = c.loop-count-test.false in
    omega (arith, i, some, few, ended)
