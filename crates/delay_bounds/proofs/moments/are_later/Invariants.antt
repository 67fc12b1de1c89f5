use Rattle.std.proofs.Common.{◌≡◌, ◌≤◌, ◌-◌, length}
use Rattle.delay_bounds.proofs.MomentLaws.{AreLaterFrom, all_later}
use Rattle.delay_bounds.proofs.moments.are_later.Given as goal

abbrev pub invariant-loop-place : goal.invariant-loop-place
invariant-loop-place l =
    (l.place ≤ length l.moments) × (length l.moments ≡ length l.old) × (AreLaterFrom l.by l.moments l.old l.place → l.moments ≡ all_later l.by l.old)

abbrev pub decreases-loop-place : goal.decreases-loop-place
decreases-loop-place l = length l.moments - l.place
