use Rattle.std.proofs.Common.{◌≡◌, ◌≤◌, ◌-◌, length, drop}
use Rattle.picture.specs.Words.{greatest_moment, least_distance}
use Rattle.picture.proofs.lane.least_distance.Given as goal

abbrev pub invariant-loop-place : goal.invariant-loop-place
invariant-loop-place l = record {
  within : l.place ≤ length l.shapes;
  least : l.least ≡ least_distance (drop (l.place - 1) l.shapes);
  small : l.least ≤ greatest_moment;
}

abbrev pub decreases-loop-place : goal.decreases-loop-place
decreases-loop-place l = l.place
