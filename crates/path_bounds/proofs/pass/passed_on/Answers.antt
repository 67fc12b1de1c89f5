use Rattle.std.proofs.Common.{rules}
use Rattle.std.proofs.lemmas.List.Elements.{All-push}
use Rattle.path_bounds.specs.Hops.{IsHop}
use Rattle.path_bounds.proofs.PassLaws.{all_passed, passed_more}
use Rattle.path_bounds.proofs.pass.passed_on.Goals as goal

pub loop-hop-preserved : goal.loop-hop-preserved
loop-hop-preserved c = record {
  so_far = rw c.in-Ok.ensures.items (passed_more c.args.passing.ports.now c.args.passing.from.now c.args.passing.clocks c.args.passing.port c.args.passing.class
      c.args.answer.now.left c.args.hops.now c.loop-hop.hop-index _ c.loop-hop.place c.pass_one-one.result.place c.loop-hop.leaving
      c.pass_one-one.result.leaving _ _ c.pass_one-one.result.hop c.loop-hop-test.true c.pass_one-one.ensures.passed c.loop-hop.invariant.so_far);
  all = rw c.in-Ok.ensures.items (All-push IsHop c.loop-hop.passed.items c.pass_one-one.result.hop c.loop-hop.invariant.all c.pass_one-one.ensures.is);
  few = search rules;
}

pub returns-clause-hops : goal.returns-clause-hops
returns-clause-hops c =
    all_passed c.args.passing.ports.now c.args.passing.from.now c.args.passing.clocks c.args.passing.port c.args.passing.class c.args.answer.now.left
    c.args.hops.now c.loop-hop.hop-index c.loop-hop.place c.loop-hop.leaving _ _ c.loop-hop-test.false c.loop-hop.invariant.so_far
