use Rattle.path_bounds.proofs.StartLaws.{all_begun, begun_more}
use Rattle.path_bounds.proofs.start.start_hops.Goals as goal

pub loop-way-preserved : goal.loop-way-preserved
loop-way-preserved c = record {
  so_far = rw c.in_ok-push_some.ensures.hops (begun_more c.args.ports.now c.args.ways.now c.loop-way.way-index _ c.loop-way.never
      c.begin_one-begun.result.never _ _ c.begin_one-begun.result.hop c.loop-way-test.true c.begin_one-begun.ensures.begun c.loop-way.invariant.so_far);
  all = c.push_some.ensures.all;
}

pub returns-clause-hops : goal.returns-clause-hops
returns-clause-hops c =
    all_begun c.args.ports.now c.args.ways.now c.loop-way.way-index c.loop-way.never _ _ c.loop-way-test.false c.loop-way.invariant.so_far
