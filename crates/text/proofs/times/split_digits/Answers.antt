use Rattle.std.proofs.Common.{◌≡◌, ◌+◌, true, drop, add-one, arith}
use Rattle.std.proofs.lemmas.List.{take_rest}
use Rattle.text.specs.Times.{leading_digits, starts_with_digit}
use Rattle.text.proofs.TimeDigits.{within_digits, more_digits}
use Rattle.text.proofs.times.split_digits.Goals as goal

pub loop-end-preserved : goal.loop-end-preserved
loop-end-preserved c =
    let word = c.args.word.now in
    let end = c.loop-end.end in
    let part = take_rest word end in
    let more : starts_with_digit (drop end word) ≡ true = cc in
    let next : leading_digits (drop end word) ≡ 1 + leading_digits (drop (end + 1) word) = rw (add-one end) (rw (more_digits end word more) (omega arith)) in
    record { within = omega (arith, within_digits end word more); digits = omega arith }
