use Rattle.std.proofs.Common.{◌≡◌, ◌<◌, ℕ, get_or, length}
use Rattle.delay_bounds.specs.Walk.{may_by}
use Rattle.window_bounds.specs.Flows.{periodic_of}
use Rattle.window_bounds.specs.Least.{IsLeastWait}
use Rattle.window_bounds.specs.Notes.{bound_at, jittered_at}
use Rattle.window_bounds.proofs.least.with_least.Given as goal

abbrev pub invariant-loop-i : goal.invariant-loop-i
invariant-loop-i g l = record {
  count : length l.bounds.items ≡ l.i;
  greatest : (j : ℕ) → j < l.i → (bound_at l.bounds.items j).greatest ≡ get_or l.waits j 0;
  least : (j : ℕ) → j < l.i → IsLeastWait (may_by l.schedule l.class) (periodic_of (jittered_at l.flows j)) (bound_at l.bounds.items j).least;
}
