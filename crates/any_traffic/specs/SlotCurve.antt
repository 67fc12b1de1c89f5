-- Slot curves: how many slots the frames cover at most that come within a time, whenever it begins. So a short frame counts for less than a long
-- one, which an arrival curve doesn't tell apart.
use Rattle.std.specs.Prelude.{◌≡◌, ◌<◌, ◌≤◌, ℕ, suc, ◌+◌, ◌-◌, ◌*◌, min, List, Some, slice_get, sum_by, take, drop}
use Rattle.wire_time.specs.declared.TheConstants.{MIN_MTU}
use Rattle.wire_time.specs.Wire.{occupancy_of}
use Rattle.abstract_port.specs.declared.Event.{Event}
use Rattle.abstract_port.specs.Traffic.{Came}
use Rattle.any_traffic.specs.Runs.{offered}
use Rattle.any_traffic.specs.SharedSlots.{slots_of}
use Rattle.any_traffic.specs.Sporadic.{AreFlows, AreSplit, Sporadic, curve_of}

-- how many slots that are a pitch apart a frame that came covers at most
abbrev pub slots_for : (ps pitch : ℕ) → Came → ℕ
slots_for ps pitch f = slots_of (occupancy_of ps f.frame.len) pitch

-- Frames keep to a slot curve: those from any one to a later one cover no more slots that are a pitch apart than the curve says of the time
-- between the two.
abbrev pub CoverUpTo : (ps pitch : ℕ) (curve : ℕ → ℕ) → List Came → Type 0
CoverUpTo ps pitch curve came =
    (k n : ℕ) (f g : Came) → slice_get came k ≡ Some f → slice_get came (k + n) ≡ Some g
    → sum_by (slots_for ps pitch) (take (suc n) (drop k came)) ≤ curve (g.moment - f.moment)

-- The slot curve of flows, where no frame needs the wire for longer than d: each frame counts for as long as those of its flow.
abbrev pub slot_curve : (d pitch : ℕ) → List Sporadic → ℕ → ℕ
slot_curve d pitch flows x = sum_by (λ flow. slots_of (min d flow.need) pitch * curve_of x flow) flows

-- The law of slot curves: where each of the frames that a queue is offered is one of some flows, they keep to the slot curve of the flows.
abbrev pub SlotCurveLaw : Type 0
SlotCurveLaw =
    (ps mtu room class d pitch : ℕ) (flows : List Sporadic) (places : List ℕ) (events : List Event)
    → MIN_MTU ≤ mtu → 0 < pitch → AreFlows d flows → AreSplit ps flows places (offered ps mtu room class events)
    → CoverUpTo ps pitch (slot_curve d pitch flows) (offered ps mtu room class events)
