use Rattle.std.proofs.Common.{◌<◌, rules, arith}
use Rattle.text.proofs.Digits.{digit_fits, next_digit, no_digits}
use Rattle.text.proofs.words.numbers.array_run.Goals as goal

pub overflow_mul-value : goal.overflow_mul-value
overflow_mul-value c =
    let few : c.loop-end.end < 19 = search (rules, arith) in
    let all = digit_fits c.loop-end.value 0 c.loop-end.end 19 c.loop-end.invariant.bound (omega arith) few in
    omega (arith, all)

pub overflow_add-value : goal.overflow_add-value
overflow_add-value c =
    let few : c.loop-end.end < 19 = search (rules, arith) in
    let small : c.in-Some.digit < 10 = search rules in
    let all = digit_fits c.loop-end.value c.in-Some.digit c.loop-end.end 19 c.loop-end.invariant.bound small few in
    omega (arith, all)

pub loop-end-preserved : goal.loop-end-preserved
loop-end-preserved c =
    let next = next_digit c.loop-end.value c.loop-end.end c.args.octets.now c.in-Some.digit (search (rules, arith)) c.loop-end.invariant.value c.loop-end.invariant.bound (search rules) (search rules) in
    record { within = omega arith; value = next.0; bound = next.1 }

pub loop-end-init : goal.loop-end-init
loop-end-init c = record { within = omega arith; value = no_digits 0; bound = omega arith }
