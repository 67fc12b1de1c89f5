-- Flows that send less: frames that are left out, that are shorter, or that come earlier, in their order.
use Rattle.std.specs.Prelude.{◌≡◌, ◌<◌, ◌≤◌, ℕ, ◌+◌, ◌⊎◌, List, [], ◌∷◌, Option, Some}
use mathlib.Core.Logic.{inl, inr}
use Rattle.wire_time.specs.declared.TheConstants.{MIN_PS_PER_OCTET, MIN_MTU}
use Rattle.wire_time.specs.Wire.{occupancy_of}
use Rattle.gates.specs.Gate.{Plan, in_ps}
use Rattle.gates.specs.History.{Accepted}
use Rattle.abstract_port.specs.declared.Start.{Start}
use Rattle.abstract_port.specs.declared.Event.{Event}
use Rattle.abstract_port.specs.AbstractPort.{new_port}
use Rattle.abstract_port.specs.Answers.{answers_of}
use Rattle.abstract_port.specs.Laws.{starts_in}
use Rattle.abstract_port.specs.Separation.{IsKeptApart}
use Rattle.abstract_port.specs.Traffic.{Came, IsOnly, queued_in, starts_of_class}
use Rattle.delay_bounds.specs.Claim.{offsets_of, flow_at, coming}
use Rattle.delay_bounds.specs.Bounds.{Track, step}
use Rattle.delay_bounds.specs.Walk.{may_by, begun}
use Rattle.delay_bounds.specs.declared.Flow.{Flow}
use Rattle.delay_bounds.specs.declared.Told.{Told}
use Rattle.delay_bounds.specs.Waits.{AreAllTold}

-- Frames that came are some of those of the flows, in their order, each no later and no longer.
abbrev pub AreLess : ℕ → ℕ → List Flow → List (ℕ × ℕ) → List Came → Type 0
AreLess ps change flows more [] = Unit {0}
AreLess ps change flows [] (f ∷ came) = ⊥
AreLess ps change flows (e ∷ more) (f ∷ came) =
    ((f.moment ≤ change + e.0) × (occupancy_of ps f.frame.len ≤ (flow_at flows e.1).need) × AreLess ps change flows more came)
    ⊎ AreLess ps change flows more (f ∷ came)

-- Each frame that started has started no later than what is told of its frame of the flows.
abbrev pub AreInTime : (next : Track → Option (Told × Track)) (ps change : ℕ) (flows : List Flow) → Track → (more : List (ℕ × ℕ)) (came : List Came) → AreLess ps change flows more came → List Start → Type 0
AreInTime next ps change flows s more came l [] = Unit {0}
AreInTime next ps change flows s more [] l (x ∷ starts) = ⊥
AreInTime next ps change flows s [] (f ∷ came) l (x ∷ starts) = ⊥
AreInTime next ps change flows s (e ∷ more) (f ∷ came) (inl l) (x ∷ starts) =
    (r : Told × Track) × (next s ≡ Some r) × (x.at ≤ change + e.0 + (r.0).wait) × AreInTime next ps change flows r.1 more came l.2 starts
AreInTime next ps change flows s (e ∷ more) (f ∷ came) (inr l) (x ∷ starts) =
    (r : Told × Track) × (next s ≡ Some r) × AreInTime next ps change flows r.1 more (f ∷ came) l (x ∷ starts)

-- The law: in every run whose frames of the class are less than the first of the flows, each starts no later than is told of its frame of
-- the flows.
abbrev pub LessLaw : Type 0
LessLaw =
    (ps mtu room class : ℕ) (a : Accepted) (plan : Plan) (events : List Event) (flows : List Flow) (n : ℕ)
    → MIN_PS_PER_OCTET ≤ ps → MIN_MTU ≤ mtu → class < 8 → a.plan ≡ Some plan → 0 < plan.cycle
    → IsKeptApart class events (new_port ps mtu room) → IsOnly a events (new_port ps mtu room)
    → (l : AreLess ps a.change flows (coming flows n (offsets_of flows)) (queued_in class events (new_port ps mtu room)))
    → AreAllTold plan class room flows
    → AreInTime (step (may_by plan class) (in_ps plan.cycle) room flows) ps a.change flows (begun (offsets_of flows)) (coming flows n (offsets_of flows))
    (queued_in class events (new_port ps mtu room)) l
    (starts_of_class class (starts_in (answers_of events (new_port ps mtu room))))
