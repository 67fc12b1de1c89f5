use Rattle.std.proofs.Common.{◌+◌, ◌-◌, take, ap, arith, rules}
use Rattle.text.proofs.PlacedLaws.{Placed-is, Placed-put_mid}
use Rattle.text.proofs.decimal_text.places.put_front.Goals as goal

pub returns : goal.returns
returns g c =
    Placed-is (ap (take c.args.count) c.put_over.ensures) (Placed-put_mid c.args.line.now c.put_over.new.room c.args.at (c.args.at + g.row.N - c.args.at) c.args.count (omega (arith, c.requires.room)) (search rules) (omega (arith, c.requires.count)))
