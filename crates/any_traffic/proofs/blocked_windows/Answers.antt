use Rattle.any_traffic.proofs.BlockedForEverLaws as BlockedForEverLaws
use Rattle.any_traffic.proofs.BlockedWindowLaws as BlockedWindowLaws
use Rattle.any_traffic.proofs.blocked_windows.Goals as goal

pub returns-clause-starts : goal.returns-clause-starts
returns-clause-starts c = BlockedWindowLaws.blocked_window_law

pub returns-clause-again : goal.returns-clause-again
returns-clause-again c = BlockedForEverLaws.blocked_for_ever_law

pub returns-clause-bounds : goal.returns-clause-bounds
returns-clause-bounds c = BlockedForEverLaws.blocked_bounds_law
