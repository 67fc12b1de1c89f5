use Rattle.std.proofs.Common.{◌+◌, ◌-◌, ◌*◌, ◌≤◌, ℕ}
use Rattle.gates.specs.Gate.{in_ps}
use Rattle.shared_bounds.specs.Busy.{IsRead}
use Rattle.shared_bounds.proofs.WalkLaws.{IsWalked}
use Rattle.shared_bounds.proofs.place.SharedClass.bounds_of.Given as goal

abbrev pub invariant-loop-from : goal.invariant-loop-from
invariant-loop-from g l = record {
  near : l.from ≤ 2 * in_ps l.self.schedule.now.cycle + 1;
  walked : (curve : ℕ → ℕ) → IsRead curve l.moments → IsWalked l.self curve l.from l.bounds;
}

abbrev pub decreases-loop-from : goal.decreases-loop-from
decreases-loop-from g l = l.cycle + 1 - l.from
