-- At which events a port steps, and counts anew what it looks at.
use Rattle.std.specs.Prelude.{ℕ, Bool, false, not, ◌||◌, nat_lt}
use Rattle.wire_time.specs.Moment.{greatest_moment}
use Rattle.abstract_port.specs.declared.Event.{Event}
use Rattle.abstract_port.specs.declared.Event.TheVariants.{Arrive, Install, Clock, Query, Count}

-- whether a port steps at an event: a clock event that is not refused
abbrev pub makes_step : ℕ → Event → Bool
makes_step now (Arrive frame) = false
makes_step now (Install command) = false
makes_step now (Clock until) = not (nat_lt until now || nat_lt greatest_moment until)
makes_step now Query = false
makes_step now (Count class) = false
