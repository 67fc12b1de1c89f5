use Rattle.std.proofs.Common.{ℕ, ◌-◌, ◌<◌, ◌≤◌, length, get_or}
use Rattle.burst_bounds.proofs.busy.begun_by.Given as goal

abbrev pub invariant-loop-begun : goal.invariant-loop-begun
invariant-loop-begun l = record {
  from : l.known ≤ l.begun;
  within : l.begun ≤ length l.slots;
  before : (i : ℕ) → l.known ≤ i → i < l.begun → get_or l.slots i 0 < l.moment;
}

abbrev pub decreases-loop-begun : goal.decreases-loop-begun
decreases-loop-begun l = length l.slots - l.begun
