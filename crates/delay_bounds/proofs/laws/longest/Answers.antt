use Rattle.delay_bounds.proofs.LongestWaitLaws.{longest_wait_law}
use Rattle.delay_bounds.proofs.laws.longest.Goals as goal

pub returns : goal.returns
returns c = longest_wait_law
