use Rattle.std.proofs.Common.{rules}
use Rattle.path_bounds.proofs.StartLaws.{all_stand, standings_more}
use Rattle.path_bounds.proofs.standings.standings_above.Goals as goal

pub loop-class-preserved : goal.loop-class-preserved
loop-class-preserved c = record {
  so_far = rw (c.in-Ok.ensures.items, c.in_ok-standing_at.ensures.standing) (standings_more c.args.pair.port.now c.args.pair.number c.args.pair.hops.now
      c.args.pair.verdicts.now c.args.pair.shares.now c.loop-class.class _ _ c.loop-class-test.true c.loop-class.invariant.so_far);
  counted = search rules;
}

pub returns-clause-above : goal.returns-clause-above
returns-clause-above c =
    all_stand c.args.pair.port.now c.args.pair.number c.args.pair.hops.now c.args.pair.verdicts.now c.args.pair.shares.now c.loop-class.class _ _
    c.loop-class-test.false c.loop-class.invariant.so_far
