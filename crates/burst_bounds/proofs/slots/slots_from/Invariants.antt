use Rattle.std.proofs.Common.{◌≡◌, None, length}
use Rattle.jumping.specs.Position.{StoodBy}
use Rattle.delay_bounds.specs.Walk.{may_by}
use Rattle.burst_bounds.specs.Walk.{AreBelow, AreSlots}
use Rattle.burst_bounds.proofs.SlotLaws.{IsSought}
use Rattle.burst_bounds.proofs.slots.slots_from.Given as goal

abbrev pub invariant-loop-i : goal.invariant-loop-i
invariant-loop-i g l = record {
  count : length l.slots.items ≡ l._i;
  slots : AreSlots (may_by l.schedule l.class) l.need l.from l.slots.items;
  below : AreBelow 100 l.slots.items;
  sought : IsSought (may_by l.schedule l.class) l.need l.from l._i l.next;
  stood : StoodBy l.schedule 0 None l.next l.position;
}
