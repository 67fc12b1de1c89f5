use Rattle.std.proofs.Common.{◌<◌, ◌≤◌, length, IfSome}
use Rattle.delay_bounds.proofs.MomentLaws.{IsFirstFrom}
use Rattle.delay_bounds.proofs.moments.earliest.Given as goal

abbrev pub invariant-loop-place : goal.invariant-loop-place
invariant-loop-place l = (l.place ≤ length l.moments) × IsFirstFrom l.moments l.place l.first × IfSome l.first (λ e. e.1 < length l.moments)

abbrev pub decreases-loop-place : goal.decreases-loop-place
decreases-loop-place l = l.place
