use Rattle.std.proofs.Common.{◌≡◌, ◌<◌, ◌≤◌, ◌+◌, ◌-◌, ◌*◌, ◌^◌}
use Rattle.shared_bounds.specs.Place.{above_of, own_slots}
use Rattle.shared_bounds.specs.Slots.{IsSought}
use Rattle.shared_bounds.proofs.place.SharedClass.slot_for.Given as goal

-- what is missing at the slot
abbrev pub invariant-loop-missing : goal.invariant-loop-missing
invariant-loop-missing l = record {
  sought : IsSought l.self l.from l.frames l.limit l.slot;
  none : l.missing ≡ 0 → own_slots l.self * (l.frames - 1) + above_of l.self (l.slot.at - l.from) ≤ l.slot.behind;
  some : 0 < l.missing
      → l.slot.behind + l.missing ≤ own_slots l.self * (l.frames - 1) + above_of l.self (l.slot.at - l.from);
  few : l.missing < 2 ^ 126;
}

abbrev pub decreases-loop-missing : goal.decreases-loop-missing
decreases-loop-missing l = l.limit - l.slot.behind
