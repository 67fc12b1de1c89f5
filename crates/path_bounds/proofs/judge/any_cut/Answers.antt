use Rattle.std.proofs.Common.{rules}
use Rattle.path_bounds.proofs.CutLaws.{cut_here, cut_more, cut_none}
use Rattle.path_bounds.proofs.judge.any_cut.Goals as goal

pub loop-place-preserved : goal.loop-place-preserved
loop-place-preserved c =
    cut_more c.args.answer.now.left c.loop-place.place c.loop-place.invariant c.in-Some.bound (search rules) (search rules)

pub returns-in_default-clause-cut : goal.returns-in_default-clause-cut
returns-in_default-clause-cut c =
    cut_none c.args.answer.now.left c.loop-place.place c.loop-place.invariant (search rules)

pub returns-then-is_cut-clause-cut : goal.returns-then-is_cut-clause-cut
returns-then-is_cut-clause-cut c =
    cut_here c.args.answer.now.left c.loop-place.place c.loop-place.invariant c.in-Some.bound (search rules) (search rules)
