use Rattle.std.proofs.Common.{◌≡◌, ◌<◌, ◌≤◌, ℕ, get_or}
use Rattle.window_bounds.specs.Notes.{noted_at}
use Rattle.window_bounds.proofs.notes.note.Given as goal

abbrev pub invariant-loop-i : goal.invariant-loop-i
invariant-loop-i l = record {
  done : (j : ℕ) → j < l.i → get_or l.waits j 0 ≡ noted_at l.lates l.flows l.t l.start j (get_or l.fn.waits j 0);
  rest : (j : ℕ) → l.i ≤ j → get_or l.waits j 0 ≡ get_or l.fn.waits j 0;
}
