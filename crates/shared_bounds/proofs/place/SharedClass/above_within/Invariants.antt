use Rattle.std.proofs.Common.{◌≡◌, ◌≤◌, ◌+◌, min, drop, sum_by}
use Rattle.shared_bounds.specs.Place.{above_of}
use Rattle.shared_bounds.specs.Traffic.{start_curves}
use Rattle.shared_bounds.proofs.place.SharedClass.above_within.Given as goal

-- those so far and those to come
abbrev pub invariant-loop-class : goal.invariant-loop-class
invariant-loop-class l =
    (l.slots ≤ l.limit)
    × (min (l.slots + sum_by (λ j. start_curves l.self.traffic.now l.self.pitch j l.time) (drop l.class-index l.self.higher.now)) l.limit
    ≡ min (above_of l.self l.time) l.limit)
