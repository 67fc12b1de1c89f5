use Rattle.delay_bounds.proofs.DropLaws as DropLaws
use Rattle.delay_bounds.proofs.laws.drops.Goals as goal

pub returns : goal.returns
returns c = DropLaws.drops_law
