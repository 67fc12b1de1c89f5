-- The moments at which gates can change (IEEE Std 802.1Q-2018, 8.6.9.1 to 8.6.9.3).
use Rattle.std.specs.Prelude.{◌≡◌, ℕ, ◌+◌, ◌⊎◌, List, Any, SomeIndex, Option, Some, None}
use Rattle.gates.specs.Gate.{Plan, in_ps, prefix}
use Rattle.gates.specs.History.{Accepted, cycle_start, in_force, plan_of, start_of}

-- a command has its lead moment or its change moment at u
abbrev pub ComesAt : ℕ → Accepted → Type 0
ComesAt u a = (u ≡ a.lead) ⊎ (u ≡ a.change)

-- An entry of a plan begins at u: so much of the cycle has passed as the entries before it take. Cycles began at start.
abbrev pub BeginsEntry : Option Plan → ℕ → ℕ → Type 0
BeginsEntry None start u = ⊥
BeginsEntry (Some plan) start u = SomeIndex plan.entries (λ i. u ≡ cycle_start start (in_ps plan.cycle) u + prefix plan.entries i)

-- A gate event at u: a command of the history comes, or an entry of the list that is in force at u begins.
abbrev pub IsGateEvent : List Accepted → ℕ → Type 0
IsGateEvent history u = Any (ComesAt u) history ⊎ BeginsEntry (plan_of (in_force history u)) (start_of (in_force history u)) u
