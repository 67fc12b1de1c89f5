-- Start curves: how many slots the frames of a class cover at most that start within a time, whenever it begins. Classes below it ask for no
-- more than that.
use Rattle.std.specs.Prelude.{◌≡◌, ◌<◌, ◌≤◌, ℕ, ◌+◌, ◌*◌, min, List, Some, slice_get}
use Rattle.wire_time.specs.Wire.{occupancy_of}
use Rattle.gates.specs.Gate.{Plan}
use Rattle.gates.specs.History.{Accepted}
use Rattle.abstract_port.specs.declared.Event.{Event}
use Rattle.any_traffic.specs.Runs.{IsScheduledRun, offered, started}
use Rattle.any_traffic.specs.SharedRuns.{IsSharedInTime, KeepStartCurve}
use Rattle.any_traffic.specs.SharedSlots.{slots_of}
use Rattle.any_traffic.specs.SlotCurve.{CoverUpTo}
use Rattle.abstract_port.specs.Traffic.{Came}

-- The start curve of a class by its slot curve. The frames that start from a moment to one that is y later wait at the first, or come up to
-- the second: so they are no more than ever wait at once, of which each covers as many slots as the longest, and those that come within y.
-- And they came no sooner than their wait before the first.
abbrev pub start_curve : (longest : ℕ) (curve : ℕ → ℕ) (most wait : ℕ) → ℕ → ℕ
start_curve longest curve most wait y = min (longest * most + curve y) (curve (y + wait))

-- The law of start curves: in every run in which the frames that the queue of a class is offered keep to a slot curve, which rises, and start
-- in time, their starts keep the start curve. None needs the wire for longer than `need`.
abbrev pub StartCurveLaw : Type 0
StartCurveLaw =
    (ps mtu room class need pitch wait most : ℕ) (curve : ℕ → ℕ) (a : Accepted) (plan : Plan) (events : List Event)
    → IsScheduledRun ps mtu room class events a plan → 0 < pitch
    → ((k : ℕ) (f : Came) → slice_get (offered ps mtu room class events) k ≡ Some f → occupancy_of ps f.frame.len ≤ need)
    → CoverUpTo ps pitch curve (offered ps mtu room class events)
    → ((x y : ℕ) → x ≤ y → curve x ≤ curve y) → IsSharedInTime ps mtu room events class wait most
    → KeepStartCurve pitch (start_curve (slots_of need pitch) curve most wait) (started ps mtu room class events)
