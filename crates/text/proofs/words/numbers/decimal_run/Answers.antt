use Rattle.std.proofs.Common.{◌<◌, rules, arith}
use Rattle.text.proofs.Digits.{digit_fits, next_digit}
use Rattle.text.proofs.words.numbers.decimal_run.Goals as goal

pub overflow_mul-number : goal.overflow_mul-number
overflow_mul-number c =
    let few : c.loop-end.end < 38 = omega (arith, c.loop-end.invariant.within, c.min-stop.ensures) in
    let all = digit_fits c.loop-end.number 0 c.loop-end.end 38 c.loop-end.invariant.bound (omega arith) few in
    omega (arith, all)

pub overflow_add-number : goal.overflow_add-number
overflow_add-number c =
    let few : c.loop-end.end < 38 = omega (arith, c.loop-end.invariant.within, c.min-stop.ensures) in
    let small : c.from.result < 10 = search rules in
    let all = digit_fits c.loop-end.number c.from.result c.loop-end.end 38 c.loop-end.invariant.bound small few in
    omega (arith, all)

pub loop-end-preserved : goal.loop-end-preserved
loop-end-preserved c =
    let next = next_digit c.loop-end.number c.loop-end.end c.args.octets.now c.from.result (omega (arith, c.min-stop.ensures)) c.loop-end.invariant.value c.loop-end.invariant.bound (search rules) (search rules) in
    record { within = omega arith; value = next.0; bound = next.1 }
