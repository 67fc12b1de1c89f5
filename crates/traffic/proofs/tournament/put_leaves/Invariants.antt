use Rattle.std.proofs.Common.{◌≡◌, ◌<◌, ◌≤◌, ◌+◌, ◌-◌, ℕ, None, get_or, length}
use Rattle.traffic.specs.Words.{heads_from}
use Rattle.traffic.proofs.tournament.put_leaves.Given as goal

abbrev pub invariant-leaves : goal.invariant-leaves
invariant-leaves l = record {
  long : length l.nodes ≡ length l.fn.nodes;
  put : (i : ℕ) → i < l.place → get_or l.nodes (length l.fn.turns + i) None ≡ get_or (heads_from 0 l.fn.turns) i None;
  within : l.place ≤ length l.fn.turns;
}

abbrev pub decreases-leaves : goal.decreases-leaves
decreases-leaves l = length l.fn.turns - l.place
