-- What a port runs with.
use Rattle.std.specs.Prelude.{◌≤◌, ℕ, Bool, Option}
use Rattle.std.specs.Option.{ForSome}
use Rattle.wire_time.specs.Moment.{greatest_moment}
use Rattle.abstract_port.specs.Sound.{IsMtu}
use Rattle.abstract_port.specs.Queue.{IsRoom}

-- what a run has
pub record Setup : Type 0 where
  pub rate : ℕ  -- picoseconds an octet
  pub mtu : ℕ  -- octets
  pub room : ℕ  -- frames a class
  pub until : Option ℕ  -- picoseconds; None: no clock event after the input
  pub summary : Bool  -- whether a summary is wanted at the end

-- each within its limits
pub record AreGood (mtu room : ℕ) (until : Option ℕ) : Type 0 where
  pub mtu_within : IsMtu mtu
  pub room_within : IsRoom room
  pub until_within : ForSome until (λ moment. moment ≤ greatest_moment)
