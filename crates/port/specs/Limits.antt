-- What a port may be made with, as tests.
use Rattle.std.specs.Prelude.{ℕ, Bool, ◌&&◌, nat_le}
use Rattle.wire_time.specs.declared.TheConstants.{MIN_MTU, MAX_MTU}
use Rattle.abstract_port.specs.declared.class_queue.TheConstants.{MAX_ROOM}

-- an mtu, in octets
abbrev pub is_mtu : ℕ → Bool
is_mtu mtu = nat_le MIN_MTU mtu && nat_le mtu MAX_MTU

-- a room, in frames a class
abbrev pub is_room : ℕ → Bool
is_room room = nat_le 1 room && nat_le room MAX_ROOM
