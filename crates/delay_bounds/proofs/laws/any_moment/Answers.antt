use Rattle.delay_bounds.proofs.AnyMomentLaws as AnyMomentLaws
use Rattle.delay_bounds.proofs.laws.any_moment.Goals as goal

pub returns : goal.returns
returns c = AnyMomentLaws.any_moment_law
