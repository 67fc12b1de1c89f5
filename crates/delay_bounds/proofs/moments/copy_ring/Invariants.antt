use Rattle.std.proofs.Common.{◌≡◌, ◌≤◌, ◌-◌, length, take}
use Rattle.delay_bounds.proofs.moments.copy_ring.Given as goal

abbrev pub invariant-loop-place : goal.invariant-loop-place
invariant-loop-place g l =
    (l.place ≤ l.count) × (l.count ≡ length l.from.items) × (l.moments.items ≡ take l.place l.from.items) × (l.moments.capacity ≡ l.initial.moments.capacity) × (l.count ≤ l.moments.capacity)

abbrev pub decreases-loop-place : goal.decreases-loop-place
decreases-loop-place g l = l.count - l.place
