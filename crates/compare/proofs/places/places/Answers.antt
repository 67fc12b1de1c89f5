use Rattle.std.proofs.Common.{arith}
use Rattle.compare.proofs.CountLaws.{past_end}
use Rattle.compare.proofs.PlaceLaws.{found_more}
use Rattle.compare.proofs.places.places.Goals as goal

pub loop-left-preserved : goal.loop-left-preserved
loop-left-preserved g c = record {
  within = omega (arith, c.loop-left.invariant.within);
  at = λ key nth. found_more c.args.all.now c.loop-left.left key nth past_end _ _ c.loop-left-test.true c.loop-left.invariant.within (c.loop-left.invariant.at key nth) (c.in_ok-insert.ensures.updates.0 (key, nth));
}
