use Rattle.std.proofs.Common.{◌≡◌, ◌<◌, ◌≤◌, ℕ, length, min}
use Rattle.std.specs.Prelude.{slice_index_or}
use Rattle.schedule_check.specs.Words.{CLASSES, in_ps, prefix, alone, open_total}
use Rattle.schedule_check.proofs.windows.shares_of.Given as goal

-- what the entries so far give each class, up to where the next begins in the cycle
abbrev pub invariant-loop-i : goal.invariant-loop-i
invariant-loop-i l = record {
  begins : l.i < length l.schedule.entries → l.from ≡ min (in_ps l.schedule.cycle) (prefix l.schedule.entries l.i);
  ends : l.i ≡ length l.schedule.entries → l.from ≡ in_ps l.schedule.cycle;
  inside : l.from ≤ in_ps l.schedule.cycle;
  so_far : (class : ℕ) → class < CLASSES → slice_index_or l.shares class 0 ≡ open_total (alone l.schedule) class l.from;
}
