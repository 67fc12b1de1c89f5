use Rattle.std.proofs.Common.{◌≤◌, ◌^◌, ◌+◌, ◌<◌, ℕ}
use Rattle.window_bounds.specs.Notes.{jittered_at}
use Rattle.window_bounds.proofs.walk.last_begin.Given as goal

abbrev pub invariant-loop-flow : goal.invariant-loop-flow
invariant-loop-flow l = record {
  begun : (i : ℕ) → i < l.flow-index → (jittered_at l.flows i).offset + (jittered_at l.flows i).jitter ≤ l.last;
  soon : l.last ≤ 2 ^ 80;
}
