use Rattle.picture.proofs.BandLaws.{drawn_both, drawn_same}
use Rattle.picture.proofs.laws.drawn_law.Goals as goal

pub returns-clause-both : goal.returns-clause-both
returns-clause-both c = drawn_both

pub returns-clause-same : goal.returns-clause-same
returns-clause-same c = drawn_same
