use Rattle.std.proofs.Common.{◌≡◌, ◌<◌, ◌≤◌, ℕ, length}
use Rattle.drawing.specs.Words.{joined_at, lane_at}
use Rattle.drawing.proofs.shapes.join_lanes.Given as goal

abbrev pub invariant-loop-lane : goal.invariant-loop-lane
invariant-loop-lane g l = record {
  nine : length l.lanes ≡ 9;
  done : (k : ℕ) → k < l.lane → lane_at l.lanes k ≡ joined_at l.gap (lane_at l.initial.lanes k);
  left : (k : ℕ) → l.lane ≤ k → lane_at l.lanes k ≡ lane_at l.initial.lanes k;
}
