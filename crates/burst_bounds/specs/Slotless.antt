-- Why there is no slot.
use Rattle.std.specs.Prelude.{◌<◌, ◌≤◌, ℕ, ◌-◌}
use Rattle.wire_time.specs.Moment.{greatest_moment}
use Rattle.gates.specs.Gate.{Plan}
use Rattle.burst_bounds.specs.Unbound.{IsLate, IsStuck}
use Rattle.burst_bounds.specs.declared.Unbound.{Unbound}
use Rattle.burst_bounds.specs.declared.Unbound.TheVariants.{Overloaded, Long, Stuck, Memory}

-- from a moment on: it is behind the greatest one, or no window takes d
abbrev pub IsNoSlot : Plan → ℕ → ℕ → ℕ → Unbound → Type 0
IsNoSlot plan class d from Long = greatest_moment < from
IsNoSlot plan class d from Stuck = IsStuck plan class d
IsNoSlot plan class d from why = ⊥

-- of so many from a moment on
abbrev pub IsSlotless : Plan → ℕ → ℕ → ℕ → ℕ → Unbound → Type 0
IsSlotless plan class d from count Long = IsLate plan class d from (count - 2) × (2 ≤ count)
IsSlotless plan class d from count Stuck = IsStuck plan class d
IsSlotless plan class d from count Memory = Unit {0}
IsSlotless plan class d from count Overloaded = ⊥
