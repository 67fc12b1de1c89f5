use Rattle.std.proofs.Common.{◌≡◌, ◌≤◌, ◌-◌, length}
use Rattle.delay_bounds.proofs.MomentLaws.{AreLaterFrom, all_later}
use Rattle.delay_bounds.proofs.moments.is_ring_later.Given as goal

abbrev pub invariant-loop-place : goal.invariant-loop-place
invariant-loop-place g l =
    (l.place ≤ length l.moments.items) × (length l.moments.items ≡ length l.old.items) × (AreLaterFrom l.by l.moments.items l.old.items l.place → l.moments.items ≡ all_later l.by l.old.items)

abbrev pub decreases-loop-place : goal.decreases-loop-place
decreases-loop-place g l = length l.moments.items - l.place
