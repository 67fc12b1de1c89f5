use Rattle.std.proofs.Common.{arith, refl}
use Rattle.traffic.proofs.NodeLaws.{chosen}
use Rattle.traffic.proofs.tournament.lesser.Goals as goal

pub returns : goal.returns
returns c = chosen c.args.left c.args.right (omega (arith, c.ranges.left)) _ refl c.from-word.result c.from-mask.result c.from-word.ensures c.from-mask.ensures
