use Rattle.std.proofs.Common.{◌≡◌, ◌+◌, drop, length}
use Rattle.gates.specs.Gate.{mask_at}
use Rattle.test_support.proofs.reference.history.mask_at.Given as goal

abbrev pub invariant-loop-i : goal.invariant-loop-i
invariant-loop-i l = record {
  told : mask_at (drop l.i l.schedule.entries) l.rest ≡ mask_at l.schedule.entries l.phase;
  listed : l.last + 1 ≡ length l.schedule.entries;
}
