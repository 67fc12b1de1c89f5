use Rattle.std.proofs.Common.{◌≡◌, ◌<◌, ◌≤◌, ◌+◌, ℕ, cond, length}
use Rattle.std.specs.Prelude.{slice_index_or}
use Rattle.schedule_check.specs.Words.{opens}
use Rattle.schedule_check.proofs.windows.add_parts.Given as goal

abbrev pub invariant-loop-class : goal.invariant-loop-class
invariant-loop-class l = record {
  long : length l.shares ≡ 8;
  done : (k : ℕ) → k < l.class → slice_index_or l.shares k 0 ≡ slice_index_or l.fn.shares k 0 + cond (opens l.mask k) l.span 0;
  left : (k : ℕ) → l.class ≤ k → slice_index_or l.shares k 0 ≡ slice_index_or l.fn.shares k 0;
}
