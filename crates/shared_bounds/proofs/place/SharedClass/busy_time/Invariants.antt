use Rattle.std.proofs.Common.{◌≡◌, ◌+◌, length}
use Rattle.shared_bounds.proofs.BusyLaws.{AreBusy}
use Rattle.shared_bounds.specs.Busy.{AreEarly}
use Rattle.shared_bounds.specs.Slots.{IsSought}
use Rattle.shared_bounds.proofs.place.SharedClass.busy_time.Given as goal

abbrev pub invariant-loop-i : goal.invariant-loop-i
invariant-loop-i g l = record {
  count : length l.starts.items ≡ l.i;
  busy : AreBusy l.self l.from l.starts.items l.moments;
  early : AreEarly l.starts.items;
  sought : IsSought l.self l.from (l.i + 1) l.limit l.slot;
}
