-- Why flows with jitter have no bounds.
use Rattle.std.specs.Prelude.{◌<◌, ◌≤◌, ℕ, ◌-◌, max, Bool, List}
use Rattle.wire_time.specs.Moment.{greatest_moment}
use Rattle.gates.specs.Gate.{Plan}
use Rattle.delay_bounds.specs.Walk.{may_by}
use Rattle.any_traffic.specs.PeriodicRoom.{IsLateFrame}
use Rattle.any_traffic.specs.PeriodicWindows.{AreSent, IsFreeFrom, PeriodicFlow, can_by, must_before}
use Rattle.burst_bounds.specs.Overload.{IsOverloaded}
use Rattle.burst_bounds.specs.Unbound.{IsStuck}
use Rattle.window_bounds.specs.Flows.{flows_of, longest_need, talkers_of}
use Rattle.window_bounds.specs.declared.JitteredFlow.{JitteredFlow}
use Rattle.window_bounds.specs.declared.Unbound.{Unbound}
use Rattle.window_bounds.specs.declared.Unbound.TheVariants.{Overloaded, Stuck, Long, Late, Memory}

-- By the start of a frame of the late run more than so many may have come.
abbrev pub IsLong : (may : ℕ → ℕ → Bool) (d : ℕ) → List PeriodicFlow → ℕ → Type 0
IsLong may d flows limit = (k s : ℕ) × IsLateFrame may d flows k s × (limit < can_by flows s)

-- The frames that may have come by a moment, or the first of them, keep the wire busy until behind the greatest moment.
abbrev pub IsLate : (may : ℕ → ℕ → Bool) (d : ℕ) → List PeriodicFlow → Type 0
IsLate may d flows =
    (t n free later : ℕ) × IsFreeFrom may d flows t free × AreSent may d t n free later × (n ≤ can_by flows t - must_before flows t)
    × (greatest_moment < max t later)

-- why a walk ends without them, where so many frames may be looked at
abbrev pub IsEnded : Plan → (class d : ℕ) → List PeriodicFlow → ℕ → Unbound → Type 0
IsEnded plan class d flows limit Stuck = IsStuck plan class d
IsEnded plan class d flows limit Long = IsLong (may_by plan class) d flows limit
IsEnded plan class d flows limit Late = IsLate (may_by plan class) d flows
IsEnded plan class d flows limit why = ⊥

-- why flows have none, whenever their frames come
abbrev pub IsHopeless : Plan → (class d : ℕ) → List JitteredFlow → Unbound → Type 0
IsHopeless plan class d flows Overloaded = IsOverloaded plan class d (talkers_of flows)
IsHopeless plan class d flows Stuck = IsStuck plan class d
IsHopeless plan class d flows Memory = Unit {0}
IsHopeless plan class d flows why = ⊥

-- why flows have no bounds, where so many frames may be looked at
abbrev pub IsUnbound : Plan → ℕ → List JitteredFlow → ℕ → Unbound → Type 0
IsUnbound plan class flows limit Overloaded = IsOverloaded plan class (longest_need flows) (talkers_of flows)
IsUnbound plan class flows limit Memory = Unit {0}
IsUnbound plan class flows limit why = IsEnded plan class (longest_need flows) (flows_of flows) limit why
