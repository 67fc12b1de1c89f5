-- Why talkers have no bounds.
use Rattle.std.specs.Prelude.{ℕ, List}
use Rattle.gates.specs.Gate.{Plan}
use Rattle.burst_bounds.specs.Overload.{IsOverloaded}
use Rattle.burst_bounds.specs.Talkers.{curve, longest_need}
use Rattle.burst_bounds.specs.Unbound.{IsLong, IsStuck}
use Rattle.burst_bounds.specs.declared.Talker.{Talker}
use Rattle.burst_bounds.specs.declared.Unbound.{Unbound}
use Rattle.burst_bounds.specs.declared.Unbound.TheVariants.{Overloaded, Stuck, Long, Memory}

-- why talkers have no bounds, where so many frames of a busy time may be looked at
abbrev pub IsUnbound : Plan → ℕ → List Talker → ℕ → Unbound → Type 0
IsUnbound plan class talkers limit Overloaded = IsOverloaded plan class (longest_need talkers) talkers
IsUnbound plan class talkers limit Stuck = IsStuck plan class (longest_need talkers)
IsUnbound plan class talkers limit Long = IsLong plan class (longest_need talkers) (curve talkers) limit
IsUnbound plan class talkers limit Memory = Unit {0}
