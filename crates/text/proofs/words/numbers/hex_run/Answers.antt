use Rattle.std.proofs.Common.{◌≡◌, ◌<◌, ◌+◌, get_or, length, Some, rules, arith}
use Rattle.text.specs.Numbers.{digit_in}
use Rattle.text.proofs.Digits.{no_digits_in, run_more_in, hex_fits}
use Rattle.text.proofs.words.numbers.hex_run.Goals as goal

pub overflow_mul-number : goal.overflow_mul-number
overflow_mul-number c =
    let few : c.loop-end.end < 16 = omega (arith, c.loop-end.invariant.within, c.min-stop.ensures) in
    let all = hex_fits c.loop-end.number 0 c.loop-end.end 16 c.loop-end.invariant.bound (omega arith) few in
    omega (arith, all)

pub overflow_add-number : goal.overflow_add-number
overflow_add-number c =
    let few : c.loop-end.end < 16 = omega (arith, c.loop-end.invariant.within, c.min-stop.ensures) in
    let small : c.from.result < 16 = search rules in
    let all = hex_fits c.loop-end.number c.from.result c.loop-end.end 16 c.loop-end.invariant.bound small few in
    omega (arith, all)

pub loop-end-preserved : goal.loop-end-preserved
loop-end-preserved c =
    let octets = c.args.octets.now in
    let few : c.loop-end.end < length octets = omega (arith, c.min-stop.ensures) in
    let small : c.from.result < 16 = search rules in
    let is : digit_in 16 (get_or octets c.loop-end.end 0) ≡ Some c.from.result = search rules in
    record {
      within = omega arith;
      value = run_more_in 16 c.loop-end.number c.from.result c.loop-end.end octets few c.loop-end.invariant.value is;
      bound = hex_fits c.loop-end.number c.from.result c.loop-end.end (c.loop-end.end + 1) c.loop-end.invariant.bound small (omega arith);
    }

pub loop-end-init : goal.loop-end-init
loop-end-init c = record { within = omega arith; value = no_digits_in 16 0; bound = omega arith }
