use Rattle.std.proofs.Common.{refl, sym, arith}
use Rattle.std.proofs.lemmas.Fmt.{decimal_digit}
use Rattle.text.proofs.decimal_text.near_numbers.NearNumbers.new.Goals as goal

pub invariant_of-result : goal.invariant_of-result
invariant_of-result c = record {
  some = omega arith;
  kept = omega arith;
  short = omega arith;
  text = sym (decimal_digit 1 (omega arith));
  small = omega arith;
  digits = refl;
  whole = refl;
}
