use Rattle.std.proofs.Common.{◌≡◌, ◌<◌, ◌≤◌, ℕ, length}
use Rattle.std.specs.Prelude.{slice_index_or}
use Rattle.schedule_check.specs.Words.{IsLengthened, Lasts, opens}
use Rattle.schedule_check.proofs.windows.lengthen.Given as goal

abbrev pub invariant-loop-class : goal.invariant-loop-class
invariant-loop-class l = record {
  long : length l.longest ≡ 8;
  done : (k : ℕ) → k < l.class → IsLengthened l.schedule l.i (opens l.mask k) k (slice_index_or l.fn.longest k (Lasts 0)) (slice_index_or l.longest k (Lasts 0));
  left : (k : ℕ) → l.class ≤ k → slice_index_or l.longest k (Lasts 0) ≡ slice_index_or l.fn.longest k (Lasts 0);
}
