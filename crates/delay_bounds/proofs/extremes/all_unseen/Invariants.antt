use Rattle.std.proofs.Common.{◌≡◌, ◌≤◌, length, All}
use Rattle.delay_bounds.specs.Noted.{unseen}
use Rattle.delay_bounds.proofs.extremes.all_unseen.Given as goal

abbrev pub invariant-loop : goal.invariant-loop
invariant-loop g l = (l.counter ≤ l.count) × (length l.bounds.items ≡ l.counter) × All (λ b. b ≡ unseen) l.bounds.items
