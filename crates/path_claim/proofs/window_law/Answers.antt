use Rattle.path_claim.proofs.WindowLaws.{begins_law, ends_law}
use Rattle.path_claim.proofs.window_law.Goals as goal

pub returns-clause-begins : goal.returns-clause-begins
returns-clause-begins c = begins_law

pub returns-clause-ends : goal.returns-clause-ends
returns-clause-ends c = ends_law
