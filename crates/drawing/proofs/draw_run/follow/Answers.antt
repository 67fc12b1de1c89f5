use Rattle.std.proofs.Common.{subst}
use Rattle.drawing.specs.Followed.{IsFollowed}
use Rattle.drawing.proofs.draw_run.follow.Goals as goal

pub returns : goal.returns
returns g c = subst (λ now. IsFollowed c.args.view now c.args.bands.now c.follow_to.new.bands) c.now.ensures.now c.follow_to.ensures
