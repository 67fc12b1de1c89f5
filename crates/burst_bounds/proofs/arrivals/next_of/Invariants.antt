use Rattle.std.proofs.Common.{◌≡◌, ◌<◌, ◌≤◌, ◌^◌, ℕ, get_or}
use Rattle.burst_bounds.specs.Walk.{comes_at, talker_at}
use Rattle.burst_bounds.proofs.arrivals.next_of.Given as goal

abbrev pub invariant-loop-i : goal.invariant-loop-i
invariant-loop-i l = record {
  place : l.place < l.i;
  moment : l.first ≡ comes_at (talker_at l.talkers l.place) (get_or l.counts l.place 0);
  least : (j : ℕ) → j < l.i → l.first ≤ comes_at (talker_at l.talkers j) (get_or l.counts j 0);
  below : l.first < 2 ^ 120;
}
