-- The first frame that fits into no window, and the first that then finds no room.
use Rattle.std.specs.Prelude.{◌≡◌, ◌<◌, ◌≤◌, ℕ, max, List, length, Some, None}
use Rattle.wire_time.specs.declared.TheConstants.{MIN_PS_PER_OCTET, MIN_MTU}
use Rattle.gates.specs.Gate.{Plan, in_ps}
use Rattle.gates.specs.History.{Accepted}
use Rattle.abstract_port.specs.declared.Event.{Event}
use Rattle.abstract_port.specs.AbstractPort.{new_port}
use Rattle.abstract_port.specs.Answers.{answers_of}
use Rattle.abstract_port.specs.Laws.{starts_in}
use Rattle.abstract_port.specs.Separation.{IsKeptApart}
use Rattle.abstract_port.specs.Traffic.{IsOnly, queued_in, starts_of_class}
use Rattle.delay_bounds.specs.Claim.{offsets_of, earliest, flow_at, coming, AreComing, IsFirstDropped}
use Rattle.delay_bounds.specs.Bounds.{Track, first_fit}
use Rattle.delay_bounds.specs.Walk.{may_by, begun, after}
use Rattle.delay_bounds.specs.ForEver.{counting}
use Rattle.delay_bounds.specs.Stuck.{first_refused}
use Rattle.delay_bounds.specs.declared.Flow.{Flow}
use Rattle.delay_bounds.specs.declared.Refused.{Refused}

-- The law: where after m frames by the plan alone the next one fits into no window of one cycle, in every run in which the frames that the
-- queue takes are the first of the flows m of them start at most: that frame never does, nor does any behind it.
abbrev pub NeverLaw : Type 0
NeverLaw =
    (ps mtu room class : ℕ) (a : Accepted) (plan : Plan) (events : List Event) (flows : List Flow) (n m : ℕ) (z : Track) (e : ℕ × ℕ)
    → MIN_PS_PER_OCTET ≤ ps → MIN_MTU ≤ mtu → class < 8 → a.plan ≡ Some plan → 0 < plan.cycle
    → IsKeptApart class events (new_port ps mtu room) → IsOnly a events (new_port ps mtu room)
    → AreComing ps a.change flows (coming flows n (offsets_of flows)) (queued_in class events (new_port ps mtu room))
    → after (may_by plan class) (in_ps plan.cycle) room flows m (begun (offsets_of flows)) ≡ Some z
    → earliest z.nexts ≡ Some e → first_fit (may_by plan class) (flow_at flows e.1).need (max e.0 z.free) (in_ps plan.cycle) ≡ None
    → length (starts_of_class class (starts_in (answers_of events (new_port ps mtu room)))) ≤ m

-- The law of drops behind it: a frame that then is the first to find no room is one of the flows', and in every run up to it, it is dropped, and
-- none before it.
abbrev pub StuckLaw : Type 0
StuckLaw =
    (plan : Plan) (class room : ℕ) (flows : List Flow) (m : ℕ) (z : Track) (e : ℕ × ℕ) (r : Refused) → class < 8 → 0 < plan.cycle
    → after (may_by plan class) (in_ps plan.cycle) room flows m (begun (offsets_of flows)) ≡ Some z
    → earliest z.nexts ≡ Some e → first_fit (may_by plan class) (flow_at flows e.1).need (max e.0 z.free) (in_ps plan.cycle) ≡ None
    → first_refused room flows (counting z) ≡ Some r
    → (k : ℕ) × IsFirstDropped plan class room flows k r.place r.moment
