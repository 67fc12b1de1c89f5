use Rattle.std.proofs.Common.{ℕ, ◌+◌, ◌<◌, ◌≤◌, length, get_or}
use Rattle.burst_bounds.specs.Busy.{IsMost}
use Rattle.burst_bounds.proofs.busy.most_waiting.Given as goal

-- and which slots are before the last of those frames came
abbrev pub invariant-loop-i : goal.invariant-loop-i
invariant-loop-i l = record {
  most : IsMost l.from l.slots l.moments l.i l.most;
  begun : l.begun ≤ length l.slots;
  before : (j n : ℕ) → l.i ≤ j → j < length l.moments → n < l.begun → get_or l.slots n 0 < l.from + get_or l.moments j 0;
}
