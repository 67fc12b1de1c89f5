use Rattle.std.proofs.Common.{◌≡◌, ◌<◌, ◌≤◌, ℕ, drop, length}
use Rattle.traffic.specs.Words.{IsNode}
use Rattle.traffic.proofs.tournament.put_inner.Given as goal

abbrev pub invariant-inner : goal.invariant-inner
invariant-inner l = record {
  long : length l.nodes ≡ length l.fn.nodes;
  leaves : drop l.fn.streams l.nodes ≡ drop l.fn.streams l.fn.nodes;
  inner : (k : ℕ) → l.at ≤ k → k < l.fn.streams → IsNode l.nodes k;
  within : l.at ≤ l.fn.streams;
}

abbrev pub decreases-inner : goal.decreases-inner
decreases-inner l = l.at
