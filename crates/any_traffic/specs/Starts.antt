-- The starts of a class in a run: whose they are, and how early they can be. This holds of any class, kept apart or not.
use Rattle.std.specs.Prelude.{◌≡◌, ◌≤◌, ℕ, ◌+◌, List, Some, slice_get}
use Rattle.wire_time.specs.Wire.{occupancy_of}
use Rattle.gates.specs.Gate.{Plan}
use Rattle.gates.specs.History.{Accepted}
use Rattle.abstract_port.specs.declared.Start.{Start}
use Rattle.abstract_port.specs.declared.Event.{Event}
use Rattle.abstract_port.specs.Served.{IsFirst, start_at}
use Rattle.abstract_port.specs.Traffic.{Came}
use Rattle.delay_bounds.specs.Walk.{may_by}
use Rattle.any_traffic.specs.Runs.{IsApartRun, IsScheduledRun, queued, started}

-- each start of the class is that of the frame at its place among those that its queue takes, and not before that came
abbrev pub AreOwnStarts : (ps mtu room class : ℕ) → List Event → Type 0
AreOwnStarts ps mtu room class events =
    (k : ℕ) (x : Start) → slice_get (started ps mtu room class events) k ≡ Some x
    → (f : Came) × (slice_get (queued ps mtu room class events) k ≡ Some f) × (x ≡ start_at ps class x.at f.frame) × (f.moment ≤ x.at)

-- The law of own starts. So a frame has left the wire when its own time on it has passed since its start.
abbrev pub OwnStartsLaw : Type 0
OwnStartsLaw =
    (ps mtu room class : ℕ) (a : Accepted) (plan : Plan) (events : List Event) → IsScheduledRun ps mtu room class events a plan
    → AreOwnStarts ps mtu room class events

-- The law of the least start: a frame that comes m after the change moment or later, and needs the wire for d at least, starts no sooner
-- than the class may have the wire for d from m on.
abbrev pub LeastStartLaw : Type 0
LeastStartLaw =
    (ps mtu room class d m s k : ℕ) (a : Accepted) (plan : Plan) (events : List Event) (f : Came) (x : Start)
    → IsScheduledRun ps mtu room class events a plan
    → slice_get (queued ps mtu room class events) k ≡ Some f → slice_get (started ps mtu room class events) k ≡ Some x
    → a.change + m ≤ f.moment → d ≤ occupancy_of ps f.frame.len → IsFirst (may_by plan class) d m s → a.change + s ≤ x.at

-- a run in which the class is kept apart is such a run
abbrev pub ApartRunLaw : Type 0
ApartRunLaw =
    (ps mtu room class : ℕ) (a : Accepted) (plan : Plan) (events : List Event) → IsApartRun ps mtu room class events a plan
    → IsScheduledRun ps mtu room class events a plan
