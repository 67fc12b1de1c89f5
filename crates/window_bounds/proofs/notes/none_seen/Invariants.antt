use Rattle.std.proofs.Common.{◌≡◌, replicate}
use Rattle.window_bounds.proofs.notes.none_seen.Given as goal

abbrev pub invariant-loop-i : goal.invariant-loop-i
invariant-loop-i g l = l.waits.items ≡ replicate l._i 0
