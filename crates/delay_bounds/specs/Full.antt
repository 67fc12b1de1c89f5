-- The first frame that finds no room.
use Rattle.std.specs.Prelude.{◌≡◌, ◌<◌, ◌≤◌, ℕ, ◌+◌, List, length, take, Some}
use Rattle.wire_time.specs.declared.TheConstants.{MIN_PS_PER_OCTET, MIN_MTU}
use Rattle.gates.specs.Gate.{Plan, in_ps}
use Rattle.gates.specs.History.{Accepted}
use Rattle.abstract_port.specs.declared.Event.{Event}
use Rattle.abstract_port.specs.AbstractPort.{new_port}
use Rattle.abstract_port.specs.Separation.{IsKeptApart}
use Rattle.abstract_port.specs.Traffic.{IsOnly, queued_in, offered_in}
use Rattle.delay_bounds.specs.Claim.{offsets_of, earliest, coming, AreComing}
use Rattle.delay_bounds.specs.Bounds.{Track, from_on}
use Rattle.delay_bounds.specs.Walk.{may_by, begun, after}
use Rattle.delay_bounds.specs.declared.Flow.{Flow}

-- The law: where after m frames by the plan alone there is no room for the next one, in every run in which the frames that the queue is
-- offered are the first of the flows, and one more than m at most, it takes the first m and no other: the next is dropped.
abbrev pub FullLaw : Type 0
FullLaw =
    (ps mtu room class : ℕ) (a : Accepted) (plan : Plan) (events : List Event) (flows : List Flow) (n m : ℕ) (z : Track) (e : ℕ × ℕ)
    → MIN_PS_PER_OCTET ≤ ps → MIN_MTU ≤ mtu → class < 8 → a.plan ≡ Some plan → 0 < plan.cycle
    → IsKeptApart class events (new_port ps mtu room) → IsOnly a events (new_port ps mtu room)
    → AreComing ps a.change flows (coming flows n (offsets_of flows)) (offered_in class events (new_port ps mtu room))
    → length (offered_in class events (new_port ps mtu room)) ≤ m + 1
    → after (may_by plan class) (in_ps plan.cycle) room flows m (begun (offsets_of flows)) ≡ Some z
    → earliest z.nexts ≡ Some e → room ≤ length (from_on e.0 z.starts)
    → queued_in class events (new_port ps mtu room) ≡ take m (offered_in class events (new_port ps mtu room))
