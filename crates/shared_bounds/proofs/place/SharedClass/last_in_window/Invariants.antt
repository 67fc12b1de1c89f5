use Rattle.std.proofs.Common.{◌≡◌, ◌≤◌, ◌-◌, ◌+◌, ◌*◌, ◌^◌, ℕ, true}
use Rattle.shared_bounds.specs.Place.{may_of, own_of}
use Rattle.shared_bounds.proofs.place.SharedClass.last_in_window.Given as goal

abbrev pub invariant-loop-at : goal.invariant-loop-at
invariant-loop-at l = record {
  whole : (more : ℕ) × (l.at ≡ l.first + more * l.self.pitch);
  stays : may_of l.self l.first (l.at - l.first + own_of l.self) ≡ true;
  near : l.at ≤ 2 ^ 72 + 2 ^ 63;
}

abbrev pub decreases-loop-at : goal.decreases-loop-at
decreases-loop-at l = l.by + 1 - l.at
