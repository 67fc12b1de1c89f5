use Rattle.std.proofs.Common.{◌≡◌, ◌≤◌, ◌+◌, min, drop}
use Rattle.any_traffic.specs.SlotCurve.{slot_curve}
use Rattle.burst_bounds.specs.Talkers.{flows_of}
use Rattle.shared_bounds.proofs.above.slots_within.Given as goal

-- those so far and those to come
abbrev pub invariant-loop-talker : goal.invariant-loop-talker
invariant-loop-talker l =
    (l.slots ≤ l.limit)
    × (min (l.slots + slot_curve l.need l.pitch (flows_of (drop l.talker-index l.talkers)) l.time) l.limit
    ≡ min (slot_curve l.need l.pitch (flows_of l.talkers) l.time) l.limit)
