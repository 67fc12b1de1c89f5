-- How long each frame of the flows waits, and that none is dropped.
use Rattle.std.specs.Prelude.{◌≡◌, ◌<◌, ◌≤◌, ℕ, ◌+◌, List, [], ◌∷◌, Option, Some, IsSome}
use Rattle.wire_time.specs.declared.TheConstants.{MIN_PS_PER_OCTET, MIN_MTU}
use Rattle.gates.specs.Gate.{Plan, in_ps}
use Rattle.gates.specs.History.{Accepted}
use Rattle.abstract_port.specs.declared.Start.{Start}
use Rattle.abstract_port.specs.declared.Event.{Event}
use Rattle.abstract_port.specs.AbstractPort.{new_port}
use Rattle.abstract_port.specs.Answers.{answers_of}
use Rattle.abstract_port.specs.Laws.{starts_in}
use Rattle.abstract_port.specs.Separation.{IsKeptApart}
use Rattle.abstract_port.specs.Traffic.{Came, IsOnly, queued_in, offered_in, starts_of_class}
use Rattle.delay_bounds.specs.Claim.{offsets_of, coming, AreComing}
use Rattle.delay_bounds.specs.Bounds.{Track, step, told_by}
use Rattle.delay_bounds.specs.Walk.{may_by, begun}
use Rattle.delay_bounds.specs.declared.Flow.{Flow}
use Rattle.delay_bounds.specs.declared.Told.{Told}

-- By a plan alone: every frame of the flows finds room, and starts.
abbrev pub AreAllTold : Plan → ℕ → ℕ → List Flow → Type 0
AreAllTold plan class room flows = (n : ℕ) → IsSome (told_by plan class room flows n)

-- Each frame that started has waited for as long as is told of it.
abbrev pub HaveWaited : (Track → Option (Told × Track)) → Track → List Came → List Start → Type 0
HaveWaited next s came [] = Unit {0}
HaveWaited next s [] (x ∷ starts) = ⊥
HaveWaited next s (f ∷ came) (x ∷ starts) =
    (r : Told × Track) × (next s ≡ Some r) × (x.at ≡ f.moment + (r.0).wait) × HaveWaited next r.1 came starts

-- The law of waiting: where every frame finds room and starts by the plan alone, in every run whose frames of the class are the first of
-- the flows each frame that starts has waited as it does by the plan alone.
abbrev pub BoundsLaw : Type 0
BoundsLaw =
    (ps mtu room class : ℕ) (a : Accepted) (plan : Plan) (events : List Event) (flows : List Flow) (n : ℕ)
    → MIN_PS_PER_OCTET ≤ ps → MIN_MTU ≤ mtu → class < 8 → a.plan ≡ Some plan → 0 < plan.cycle
    → IsKeptApart class events (new_port ps mtu room) → IsOnly a events (new_port ps mtu room)
    → AreComing ps a.change flows (coming flows n (offsets_of flows)) (queued_in class events (new_port ps mtu room))
    → AreAllTold plan class room flows
    → HaveWaited (step (may_by plan class) (in_ps plan.cycle) room flows) (begun (offsets_of flows))
    (queued_in class events (new_port ps mtu room))
    (starts_of_class class (starts_in (answers_of events (new_port ps mtu room))))

-- The law of drops: where every frame finds room and starts by the plan alone, in every run in which the frames that the queue is offered
-- are the first of the flows it takes them all.
abbrev pub DropsLaw : Type 0
DropsLaw =
    (ps mtu room class : ℕ) (a : Accepted) (plan : Plan) (events : List Event) (flows : List Flow) (n : ℕ)
    → MIN_PS_PER_OCTET ≤ ps → MIN_MTU ≤ mtu → class < 8 → a.plan ≡ Some plan → 0 < plan.cycle
    → IsKeptApart class events (new_port ps mtu room) → IsOnly a events (new_port ps mtu room)
    → AreComing ps a.change flows (coming flows n (offsets_of flows)) (offered_in class events (new_port ps mtu room))
    → AreAllTold plan class room flows
    → queued_in class events (new_port ps mtu room) ≡ offered_in class events (new_port ps mtu room)
