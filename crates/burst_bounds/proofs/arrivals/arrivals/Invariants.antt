use Rattle.std.proofs.Common.{◌≡◌, ◌≤◌, ℕ, length, get_or}
use Rattle.burst_bounds.specs.Talkers.{curve}
use Rattle.burst_bounds.specs.Walk.{AreArrivals, AreBelow}
use Rattle.burst_bounds.proofs.ArrivalLaws.{AreCounted, total}
use Rattle.burst_bounds.proofs.arrivals.arrivals.Given as goal

abbrev pub invariant-loop-i : goal.invariant-loop-i
invariant-loop-i g l = record {
  count : length l.moments.items ≡ l._i;
  moments : AreArrivals (curve l.talkers) l.moments.items;
  below : AreBelow 120 l.moments.items;
  sum : total l.counts.items ≡ l._i;
  few : (i : ℕ) → get_or l.counts.items i 0 ≤ l._i;
  counted : (last : ℕ) × AreCounted l.talkers l.counts.items last;
}
