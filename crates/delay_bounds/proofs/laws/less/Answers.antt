use Rattle.delay_bounds.proofs.LessLaws as LessLaws
use Rattle.delay_bounds.proofs.laws.less.Goals as goal

pub returns : goal.returns
returns c = LessLaws.less_law
