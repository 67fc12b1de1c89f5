use Rattle.std.proofs.Common.{length, sym, ◌∙◌}
use Rattle.std.proofs.lemmas.Bool.{lt-ltb, le-ltb}
use Rattle.picture.proofs.LaneLaws.{put_near, put_far, put_first, none_there, some_there}
use Rattle.picture.proofs.lane.join_last.Goals as goal

pub returns-then-is_empty-clause-alone : goal.returns-then-is_empty-clause-alone
returns-then-is_empty-clause-alone c =
    λ _. put_first c.args.gap c.args.shapes.now c.args.shape.now (none_there (length c.args.shapes.now) (sym c.is_empty.ensures ∙ c.if-is_empty.true))

pub returns-then-distance-gap-clause-alone : goal.returns-then-distance-gap-clause-alone
returns-then-distance-gap-clause-alone c =
    λ _. put_far c.args.gap c.args.shapes.now c.args.shape.now (some_there (length c.args.shapes.now) (sym c.is_empty.ensures ∙ c.if-is_empty.false)) (le-ltb _ _ (rw c.distance.ensures at c.if-distance-gap.true))

pub returns-clause-joined : goal.returns-clause-joined
returns-clause-joined c =
    λ _. rw c.joined.ensures
    (put_near c.args.gap c.args.shapes.now c.args.shape.now (some_there (length c.args.shapes.now) (sym c.is_empty.ensures ∙ c.if-is_empty.false)) (lt-ltb _ _ (rw c.distance.ensures at c.if-distance-gap.false)))
