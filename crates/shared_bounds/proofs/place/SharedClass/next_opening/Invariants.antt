use Rattle.std.proofs.Common.{◌≡◌, ◌<◌, ◌≤◌, ◌-◌, ℕ, None, false}
use Rattle.jumping.specs.Position.{IsPlaced}
use Rattle.shared_bounds.specs.Place.{opening_of}
use Rattle.shared_bounds.proofs.place.SharedClass.next_opening.Given as goal

abbrev pub invariant-loop-at : goal.invariant-loop-at
invariant-loop-at l =
    (l.from ≤ l.at) × (l.at ≤ l.stop) × IsPlaced l.self.schedule.now 0 None l.at l.position
    × ((u : ℕ) → l.from < u → u ≤ l.at → opening_of l.self u ≡ false)

abbrev pub decreases-loop-at : goal.decreases-loop-at
decreases-loop-at l = l.stop - l.at
