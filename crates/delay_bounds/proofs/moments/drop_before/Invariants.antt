use Rattle.std.proofs.Common.{◌≡◌, length}
use Rattle.delay_bounds.specs.Bounds.{from_on}
use Rattle.delay_bounds.proofs.moments.drop_before.Given as goal

abbrev pub invariant-loop-moments : goal.invariant-loop-moments
invariant-loop-moments g l = (from_on l.t l.moments.items ≡ from_on l.t l.initial.moments.items) × (l.moments.capacity ≡ l.initial.moments.capacity)

abbrev pub decreases-loop-moments : goal.decreases-loop-moments
decreases-loop-moments g l = length l.moments.items
