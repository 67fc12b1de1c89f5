use Rattle.std.proofs.Common.{◌<◌, ℕ}
use Rattle.std.specs.Prelude.{slice_index_or}
use Rattle.schedule_check.specs.Words.{CLASSES, Lasts, alone}
use Rattle.schedule_check.proofs.WindowLaws.{Reaches, Bounds, IsMaskBefore}
use Rattle.schedule_check.proofs.windows.longest_open.Given as goal

-- the longest of the entries so far, of each class, and the mask of the last of them
abbrev pub invariant-loop-i : goal.invariant-loop-i
invariant-loop-i l = record {
  reaches : (class : ℕ) → class < CLASSES → Reaches (alone l.schedule) class (slice_index_or l.longest class (Lasts 0));
  bounds : (class : ℕ) → class < CLASSES → Bounds l.schedule class l.i (slice_index_or l.longest class (Lasts 0));
  before : IsMaskBefore l.schedule l.i l.before;
}
