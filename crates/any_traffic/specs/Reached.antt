-- Slots are reached: where all frames of a class are of one length, and the wire is kept busy with them, they start at the slots exactly.
use Rattle.std.specs.Prelude.{◌≡◌, ◌<◌, ◌≤◌, ℕ, suc, ◌+◌, ◌-◌, List, Some, slice_get}
use Rattle.wire_time.specs.Wire.{occupancy_of}
use Rattle.gates.specs.Gate.{Plan}
use Rattle.gates.specs.History.{Accepted}
use Rattle.abstract_port.specs.declared.Start.{Start}
use Rattle.abstract_port.specs.declared.Event.{Event}
use Rattle.abstract_port.specs.Traffic.{Came}
use Rattle.delay_bounds.specs.Walk.{may_by}
use Rattle.any_traffic.specs.Runs.{IsApartRun, queued, started}
use Rattle.any_traffic.specs.Slots.{IsSlot}

-- from the frame at place j on the wire is kept busy with so many of the class: the one before it has left the wire when it comes, and each
-- behind it comes before the one before has
pub record IsKeptBusy (j n : ℕ) (came : List Came) (starts : List Start) : Type 0 where
  pub free : (i : ℕ) (g : Came) (y : Start) → suc i ≡ j → slice_get came j ≡ Some g → slice_get starts i ≡ Some y → y.«end» ≤ g.moment
  pub busy : (i : ℕ) (f : Came) (y : Start) → j ≤ i → i < j + n → slice_get came (suc i) ≡ Some f → slice_get starts i ≡ Some y
      → f.moment ≤ y.«end»

-- The law: in every run in which the class is kept apart, and all of its frames need the wire for d, the n-th behind the one from which on
-- the wire is kept busy starts at the slot behind n others, counted from when that one came. So a bound that this slot has is reached.
abbrev pub ReachedLaw : Type 0
ReachedLaw =
    (ps mtu room class d j n : ℕ) (a : Accepted) (plan : Plan) (events : List Event) (g : Came) (x : Start)
    → IsApartRun ps mtu room class events a plan
    → ((k : ℕ) (f : Came) → slice_get (queued ps mtu room class events) k ≡ Some f → occupancy_of ps f.frame.len ≡ d)
    → IsKeptBusy j n (queued ps mtu room class events) (started ps mtu room class events)
    → slice_get (queued ps mtu room class events) j ≡ Some g → slice_get (started ps mtu room class events) (j + n) ≡ Some x
    → (s : ℕ) × IsSlot (may_by plan class) d (g.moment - a.change) n s × (x.at ≡ a.change + s)
